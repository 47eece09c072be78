pub mod Linking
pub mod Storing
pub mod Scopes
