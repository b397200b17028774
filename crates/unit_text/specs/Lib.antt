pub mod Lines
pub mod Parsing
pub mod Composing
