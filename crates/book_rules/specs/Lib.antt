pub mod Laws
pub mod Machine
pub mod Passes
pub mod Run
