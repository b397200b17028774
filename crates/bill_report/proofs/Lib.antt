pub mod Billed
pub mod Columns
pub mod Handing
pub mod Settles
pub mod TextLaws
