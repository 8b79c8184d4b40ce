-- Texts by their number, and positions in a text.
pub mod Texts
pub mod Positions
