pub mod Edges
pub mod Extension
pub mod reading
pub mod RunGraph
pub mod Traces
