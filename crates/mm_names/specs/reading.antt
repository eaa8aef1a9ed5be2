-- What mirrors the code: nothing that a reader believes rests on it.
pub mod Marks
