pub mod Rights
pub mod Laws
pub mod Table
