mod DecidingLaws
mod CompareLaws
pub mod OrderLaws
