pub mod Answering
pub mod Comparing
