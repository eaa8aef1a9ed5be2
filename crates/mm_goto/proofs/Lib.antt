pub mod Folding
pub mod Within
