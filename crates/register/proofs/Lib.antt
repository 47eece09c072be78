pub mod Liveness
pub mod Unasked
pub mod Theorems
pub mod Cases
