-- `Texts` and `Components` have the laws that other crates' proofs cite, `Scans` those of the loops and tests over bytes.
mod Scans
pub mod Texts
pub mod Components
