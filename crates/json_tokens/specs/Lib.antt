pub mod Tokens
pub mod Answers
pub mod Laws
pub mod Spelling
pub mod SpellingLaws
