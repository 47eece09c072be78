pub mod Lining
pub mod Unwritten
pub mod Theorems
pub mod Cases
pub mod Laws
