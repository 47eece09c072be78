pub mod Filling
pub mod Laying
pub mod Putting
pub mod Opening
pub mod Answering
