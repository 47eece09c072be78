pub mod Printed
pub mod Shared
