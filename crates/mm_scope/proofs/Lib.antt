pub mod Declared
pub mod LocalNames
pub mod Numerals
pub mod Seen
pub mod Steps
