pub mod Names
pub mod Expressions
pub mod Homes
pub mod Instructions
