pub mod Grants
pub mod Sameness
pub mod Sources
pub mod Versions
pub mod Theorems
pub mod Cases
pub mod CasesOrder
