pub mod SearchLaws
pub mod BitNumber
pub mod HowLaws
