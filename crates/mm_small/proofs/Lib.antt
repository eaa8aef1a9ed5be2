pub mod Validity
pub mod SmallInTurn
pub mod SmallFlat
pub mod SmallSourcelike
