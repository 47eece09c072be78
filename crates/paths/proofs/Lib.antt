pub mod Laws
pub mod Pairs
pub mod Theorems
pub mod Cases
pub mod Dots
pub mod Walks
pub mod Verdicts
