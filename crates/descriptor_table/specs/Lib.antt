pub mod Replies
pub mod Sequences
