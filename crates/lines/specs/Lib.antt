pub mod Cells
pub mod Checked
pub mod Lines
pub mod Rows
pub mod Sizes
pub mod Totals
