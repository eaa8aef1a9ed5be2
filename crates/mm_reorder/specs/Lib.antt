pub mod AddedEdges
pub mod Orders
pub mod Cycles
