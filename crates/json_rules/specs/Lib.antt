pub mod Names
pub mod Members
pub mod Actions
pub mod Items
pub mod Fitting
pub mod Orders
