pub mod Limits
pub mod Register
pub mod Chain
pub mod Laws
