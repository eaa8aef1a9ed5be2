pub mod Ints
pub mod Shapes
pub mod Grammatical
pub mod Checks
