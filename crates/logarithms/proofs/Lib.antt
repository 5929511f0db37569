pub mod Logarithms
pub mod Weights
