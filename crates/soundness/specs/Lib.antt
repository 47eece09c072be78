pub mod Judged
pub mod Judging
pub mod Laws
pub mod Opened
pub mod Standing
pub mod Whole
pub mod World
pub mod WorldLaws
