pub mod Pasting
pub mod Powers
pub mod Places
