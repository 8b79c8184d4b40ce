-- What a handle's part of a tree is, when two tables have it in common, and what is claimed of calls that are confined to it (RULES 20).
pub mod Reachable
pub mod InCommon
pub mod Claims
pub mod Scripts
