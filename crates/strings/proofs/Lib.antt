mod SameLaws
pub mod PartLaws
pub mod DotLaws
