pub mod Buckets
pub mod Distinct
pub mod Filling
pub mod Seeking
