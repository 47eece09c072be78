pub mod Reasons
pub mod Holders
pub mod Uses
