-- What a reader has to believe, in the order of docs/RULES.md: what the resolver is given and what it answers. A comment quotes the wording that a
-- definition was written from, with the number of the rule. Theorems over these definitions are in proofs/.
pub mod Bytes
pub mod Tree
pub mod Answers
pub mod TableCheck
pub mod OpenHow
pub mod Path
pub mod Handles
pub mod Trace
pub mod Walk
pub mod Step
pub mod Resolve
pub mod Descriptors
pub mod Halving
pub mod Lookup
pub mod Build
