pub mod Commands
pub mod Holding
pub mod Journals
pub mod Replaying
pub mod Telling
