pub mod Flat
pub mod SmallProgram
pub mod SmallTree
