mod RecordLaws
pub mod SureLaws
