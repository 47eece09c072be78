pub mod Lengths
pub mod Joining
pub mod Listing
pub mod Composing
pub mod Answers
pub mod Theorems
pub mod Cases
