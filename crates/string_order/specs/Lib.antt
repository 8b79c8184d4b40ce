pub mod Orders
pub mod Starts
