-- What mirrors the code. Nothing that a reader believes rests on it.
pub mod Sound
pub mod Whole
pub mod Words
