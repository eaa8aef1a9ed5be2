pub mod Plans
pub mod reading
