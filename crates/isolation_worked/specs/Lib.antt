-- The computed test for a part in common.
pub mod Agree
