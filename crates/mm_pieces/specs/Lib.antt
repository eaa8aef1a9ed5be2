pub mod Mirroring
pub mod Calling
pub mod Flushing
pub mod Parts
