pub mod Putting
pub mod Text
