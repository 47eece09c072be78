pub mod Asking
pub mod Clearing
pub mod Going
pub mod Packing
pub mod Laws
