pub mod Errors
pub mod Numbers
pub mod Owned
pub mod Report
pub mod Shown
