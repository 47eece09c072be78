pub mod Decimals
pub mod Answers
pub mod Laws
pub mod Walk
