pub mod Laws
pub mod Answers
pub mod Joining
pub mod Listing
pub mod Composing
pub mod Theorems
