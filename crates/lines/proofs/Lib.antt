pub mod Laws
pub mod Cases
pub mod Walks
pub mod Cursors
