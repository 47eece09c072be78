pub mod Table
pub mod Hearing
