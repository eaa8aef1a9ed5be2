-- What mirrors the code. Nothing that a reader believes rests on it.
pub mod Addressed
pub mod Points
pub mod Sets
