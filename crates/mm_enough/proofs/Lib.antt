pub mod Gathering
pub mod Deciding
pub mod Edges
pub mod Graphs
pub mod Enough
