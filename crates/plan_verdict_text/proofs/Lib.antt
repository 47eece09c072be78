pub mod Joining
pub mod Listing
pub mod Lengths
pub mod Composing
pub mod Answers
pub mod Theorems
pub mod Cases
