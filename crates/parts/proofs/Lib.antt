pub mod FoundLaws
pub mod PartsLaws
