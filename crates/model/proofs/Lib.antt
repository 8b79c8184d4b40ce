-- The worked calls of RULES 13.4, scripts of descriptor calls and names looked up, what computing them unfolds, and the theorems that the definitions give their answers. The laws over
-- the definitions are the crate laws, the theorems the crate theorems.
pub mod BenchTree
pub mod Computing
pub mod WorkedTable
pub mod Scripts
pub mod WorkedScripts
pub mod Names
pub mod WorkedNames
