pub mod Building
pub mod Characters
pub mod Numbers
pub mod Pieces
pub mod Reading
pub mod Spans
pub mod Unique
pub mod Quotes
