pub mod ClashLaws
pub mod MountLaws
