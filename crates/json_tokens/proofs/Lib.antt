pub mod Cases
pub mod Walks
pub mod Firsts
