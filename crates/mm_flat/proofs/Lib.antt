pub mod Faults
pub mod Limiting
pub mod Marks
pub mod Nests
pub mod Order
pub mod Settles
pub mod Tables
pub mod Threads
