mod Forms
mod Lines
mod Statements
mod Whole
pub mod Items
pub mod Planned
pub mod Unbuffered
