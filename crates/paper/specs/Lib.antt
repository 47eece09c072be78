pub mod Cells
pub mod Paper
pub mod Laws
