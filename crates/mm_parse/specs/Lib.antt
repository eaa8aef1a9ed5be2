pub mod Faults
pub mod reading
