pub mod Reading
pub mod Imaging
pub mod Whole
pub mod Theorems
pub mod Cases
pub mod Firsts
