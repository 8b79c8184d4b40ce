mod BlockLaws
pub mod MarkLaws
