pub mod Columns
pub mod Laws
pub mod Sheet
pub mod SheetLaws
