pub mod Failing
mod Spreading
