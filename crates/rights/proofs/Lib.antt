pub mod Table
pub mod Masks
pub mod Kept
pub mod Theorems
pub mod Cases
