pub mod Reads
pub mod Lefts
pub mod Runs
pub mod Filling
