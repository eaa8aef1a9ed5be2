pub mod Cells
pub mod reading
pub mod Sets
