pub mod Closures
pub mod Firsts
pub mod Frontiers
pub mod Missing
pub mod Nearer
pub mod Wordwise
