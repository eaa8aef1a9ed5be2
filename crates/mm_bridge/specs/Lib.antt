pub mod Steps
pub mod Tiny
