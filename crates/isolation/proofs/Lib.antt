-- The claims are proved in `Isolated`, of calls, and `Scripts`, of descriptors. They rest on `Reach`, reachable places of one table; `Carried`, the same
-- places in a second one; `Turns`, what restrictions make of a component; `Components`, one component in both; `Walks`, all of them.
pub mod Reach
pub mod Carried
pub mod Turns
pub mod Components
pub mod Walks
pub mod Isolated
pub mod Scripts
