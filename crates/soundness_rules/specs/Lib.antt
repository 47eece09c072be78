pub mod Sound
pub mod Struck
pub mod Roots
