pub mod Layers
pub mod Lists
