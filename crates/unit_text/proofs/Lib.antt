pub mod Growing
pub mod Assembling
pub mod LinesBack
pub mod Returning
