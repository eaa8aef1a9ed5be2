pub mod Existing
pub mod OneHead
pub mod Rows
pub mod SomeHead
pub mod Unique
