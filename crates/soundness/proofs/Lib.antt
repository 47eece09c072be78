pub mod Asking
pub mod Climbing
pub mod Examining
pub mod Fits
pub mod Fitting
pub mod Naming
pub mod Passing
