pub mod Adding
pub mod Existing
pub mod Unique
