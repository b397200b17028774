pub mod Agreement
pub mod Balance
pub mod Cells
pub mod Sums
