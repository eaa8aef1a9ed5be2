mod Expressions
mod Helpers
mod Naming
mod Reading
mod Starts
mod Templates
pub mod Whole
