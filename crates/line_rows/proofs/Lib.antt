pub mod Answering
pub mod Bounds
pub mod Lengths
pub mod Putting
pub mod Texts
