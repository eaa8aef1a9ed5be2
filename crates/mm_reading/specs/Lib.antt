pub mod Gives
pub mod Keeping
pub mod Parsing
pub mod Runs
