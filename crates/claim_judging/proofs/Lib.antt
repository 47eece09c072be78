pub mod Asking
pub mod Chains
