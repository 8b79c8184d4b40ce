pub mod Climbs
pub mod Leads
