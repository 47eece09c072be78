pub mod Containment
pub mod Components
pub mod Trimming
pub mod Readings
pub mod Lent
