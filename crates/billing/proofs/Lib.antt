pub mod Adding
pub mod Charging
pub mod Crediting
pub mod Pools
pub mod Recovers
pub mod Refuses
pub mod Soundness
pub mod Walks
