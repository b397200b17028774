pub mod Bills
pub mod Worked
pub mod Passes
