pub mod Combining
pub mod InTurn
pub mod LongestRuns
pub mod Onwards
pub mod Sounding
