pub mod Rewriting
pub mod Reading
pub mod Theorems
pub mod Cases
