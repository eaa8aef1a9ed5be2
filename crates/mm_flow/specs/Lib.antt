pub mod Flow
pub mod Scopes
pub mod Words
pub mod Expressions
pub mod Statements
pub mod Text
pub mod Programs
pub mod reading
