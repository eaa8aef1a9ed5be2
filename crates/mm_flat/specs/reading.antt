pub mod Nesting
pub mod Refusal
pub mod Threading
