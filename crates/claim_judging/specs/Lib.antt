pub mod Alone
pub mod AloneLaws
pub mod Over
pub mod OverLaws
