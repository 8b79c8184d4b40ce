-- What holds of the images that are written (RULES 19.11).
pub mod SameTree
pub mod Written
