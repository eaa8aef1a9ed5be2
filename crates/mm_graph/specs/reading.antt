-- What mirrors the code. Nothing that a reader believes rests on it.
pub mod Accesses
pub mod Marks
pub mod Tables
pub mod Turned
