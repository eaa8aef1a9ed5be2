-- What mirrors the code: nothing that a reader believes rests on it.
pub mod Begun
pub mod BegunItems
pub mod Openings
pub mod Whole
