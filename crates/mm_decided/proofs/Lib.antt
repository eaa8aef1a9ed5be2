pub mod Between
pub mod Cells
pub mod Deciding
pub mod First
pub mod Firsts
pub mod Naming
pub mod Reaching
pub mod Saturating
