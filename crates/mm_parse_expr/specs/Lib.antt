pub mod Faults
pub mod Grammar
pub mod Symbols
pub mod Terminals
pub mod reading
