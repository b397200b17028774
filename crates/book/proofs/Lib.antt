pub mod Bills
pub mod Loads
pub mod Outcomes
