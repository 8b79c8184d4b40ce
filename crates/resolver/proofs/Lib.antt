mod BeginLaws
pub mod CallLaws
