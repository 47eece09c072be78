pub mod Collecting
pub mod Copying
pub mod Ending
pub mod Pasting
pub mod Owned
pub mod Parts
pub mod Nearing
