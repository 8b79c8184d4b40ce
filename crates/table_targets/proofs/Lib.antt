pub mod TargetLaws
