-- The theorems: `Demand3`, over one trace `OnlyStops`, and `Witnessed` of the calls of `Witness`; `Bounds`; `Steps`, a walk as its steps; and of the
-- descriptor table `Descriptors` and, for demand 3 between two opens, `DescriptorPairs`, and `OpensWitnessed` of the opens of `OpenWitness`;
-- `Searched`, the search by halving; `AnyHandle`, absolute paths whose handle is not checked, and `HandleWitness` of calls over the bench tree.
pub mod OnlyStops
pub mod Demand3
pub mod Bounds
pub mod Steps
pub mod Witness
pub mod Witnessed
pub mod Descriptors
pub mod DescriptorPairs
pub mod OpenWitness
pub mod OpensWitnessed
pub mod Searched
pub mod AnyHandle
pub mod HandleWitness
