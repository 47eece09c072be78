pub mod Walking
pub mod Parts
pub mod Claims
pub mod Turns
