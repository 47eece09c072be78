pub mod Asked
pub mod Finding
pub mod Laws
pub mod Tables
pub mod Walks
