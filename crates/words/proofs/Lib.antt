pub mod Seeking
pub mod Delivering
pub mod Telling
pub mod Theorems
