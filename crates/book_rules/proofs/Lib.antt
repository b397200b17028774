pub mod Follows
pub mod Lives
pub mod Voids
