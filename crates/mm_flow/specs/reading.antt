pub mod Emission
pub mod Assembling
pub mod Settling
pub mod Finding
