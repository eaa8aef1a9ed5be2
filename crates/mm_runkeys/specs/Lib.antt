pub mod Keys
pub mod reading
pub mod Spans
