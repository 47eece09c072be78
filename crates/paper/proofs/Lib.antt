pub mod Opening
pub mod Entering
pub mod Filling
pub mod Chaining
pub mod Turning
pub mod Walking
