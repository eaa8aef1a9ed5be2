-- What mirrors the code. Nothing that a reader believes rests on it.
pub mod Behind
pub mod Marks
pub mod Tables
