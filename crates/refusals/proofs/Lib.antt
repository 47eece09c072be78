pub mod Laws
pub mod Numbers
pub mod Ordered
pub mod Theorems
pub mod Cases
