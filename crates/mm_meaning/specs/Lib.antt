pub mod Meaning
pub mod Acting
pub mod Standing
pub mod Inside
pub mod Sections
