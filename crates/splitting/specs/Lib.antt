pub mod Splitting
pub mod steps
