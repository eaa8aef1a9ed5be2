pub mod Woven
