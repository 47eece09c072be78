pub mod Drawn
pub mod Settled
