pub mod Faults
pub mod Session
