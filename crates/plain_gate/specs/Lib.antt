pub mod Cells
pub mod Known
