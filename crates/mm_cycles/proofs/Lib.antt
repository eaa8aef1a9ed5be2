pub mod FirstCycles
pub mod Folding
pub mod OnlyCells
pub mod Transfer
pub mod UnsafePairs
