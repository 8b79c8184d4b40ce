pub mod Requests
pub mod Walking
pub mod Scopes
