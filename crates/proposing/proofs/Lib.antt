pub mod Answering
pub mod Marking
pub mod Owned
pub mod Owning
pub mod Passing
pub mod Rooming
pub mod Using
