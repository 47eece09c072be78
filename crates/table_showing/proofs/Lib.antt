pub mod Telling
pub mod Owning
pub mod Counting
pub mod Showing
pub mod Testing
pub mod Numbering
pub mod Theorems
pub mod Cases
