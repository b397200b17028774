pub mod Firsts
pub mod Faults
