pub mod Steps
pub mod Nesting
pub mod Judging
pub mod Answers
pub mod Opens
pub mod Laws
pub mod Shrinking
