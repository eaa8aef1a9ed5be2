pub mod Items
pub mod Joined
pub mod Parsed
pub mod Parts
pub mod Opened
pub mod Tested
