-- What the theorems state. The definitions that they speak of are the crate model's.
pub mod Adding
pub mod Bounded
pub mod Ordered
pub mod Descriptors
pub mod Searched
pub mod AnyHandle
