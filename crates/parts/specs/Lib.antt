pub mod Parts
pub mod Searches
