pub mod Crossing
pub mod SumRows
pub mod WordRows
