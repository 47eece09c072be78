pub mod Judged
pub mod Sheets
pub mod Laws
pub mod Assembling
