pub mod BlockLaws
mod ReversedLaws
