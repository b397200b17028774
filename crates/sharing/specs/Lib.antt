pub mod Rule
pub mod Rules
pub mod Theorems
pub mod Laws
pub mod Names
pub mod NameLaws
