-- Laws that this crate's proofs cite, and what its answer is to a call.
mod HandleLaws
pub mod CallLaws
mod PathLaws
