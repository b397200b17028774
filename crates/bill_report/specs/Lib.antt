pub mod Failing
pub mod Report
pub mod Settling
pub mod Shown
