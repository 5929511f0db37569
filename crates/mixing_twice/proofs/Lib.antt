pub mod FourRows
pub mod QuadRows
pub mod TwoLevels
