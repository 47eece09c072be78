pub mod Pairing
pub mod Sheets
pub mod Walking
pub mod Filling
