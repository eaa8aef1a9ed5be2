pub mod Near
pub mod Related
pub mod Table
pub mod Words
