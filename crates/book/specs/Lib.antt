pub mod Load
pub mod Shown
pub mod Tests
pub mod Told
