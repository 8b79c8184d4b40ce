-- The laws that the functions' proofs cite.
pub mod RowLaws
pub mod NearLaws
pub mod BrokenLaws
