mod Making
pub mod Printing
