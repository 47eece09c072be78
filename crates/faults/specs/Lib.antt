pub mod Faults
pub mod Unread
