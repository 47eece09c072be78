pub mod Shown
pub mod Columns
