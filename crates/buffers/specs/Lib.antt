pub mod Buffers
pub mod Positions
pub mod Delivery
pub mod Laws
