pub mod Filling
pub mod Telling
pub mod Theorems
pub mod Together
