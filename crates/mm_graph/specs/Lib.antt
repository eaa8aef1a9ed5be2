pub mod Graphs
pub mod Refusals
pub mod reading
pub mod Sites
