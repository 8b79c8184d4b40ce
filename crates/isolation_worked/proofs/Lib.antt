-- `AgreeLaws`: what passes the test has the part in common. `WorkedPairs`: the claims, put to use over the tables and calls of `Pairs`.
pub mod AgreeLaws
pub mod Pairs
pub mod WorkedPairs
