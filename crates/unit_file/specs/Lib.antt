pub mod Records
pub mod Kinds
pub mod Reading
pub mod Writing
pub mod Laws
