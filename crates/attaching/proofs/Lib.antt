pub mod Columns
pub mod Placing
pub mod Settling
