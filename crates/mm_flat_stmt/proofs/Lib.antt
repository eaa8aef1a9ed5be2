pub mod Order
pub mod Starts
pub mod Functions
pub mod Inlining
pub mod Rooms
pub mod Arms
