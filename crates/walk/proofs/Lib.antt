mod WalkLaws
mod PendingLaws
mod OutcomeLaws
mod StepLaws
mod RunLaws
pub mod UniqueLaws
