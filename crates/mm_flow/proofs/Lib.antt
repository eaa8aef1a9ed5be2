pub mod Grows
pub mod Finds
