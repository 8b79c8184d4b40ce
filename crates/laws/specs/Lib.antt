-- What the laws and other crates' contracts speak of. The definitions that it rests on are the crate model's.
pub mod Acceptance
pub mod Held
pub mod Inside
