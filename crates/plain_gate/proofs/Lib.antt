pub mod Owners
pub mod Looking
pub mod Uses
pub mod Faulting
pub mod Judging
pub mod Answering
