pub mod AllBelow
pub mod Chosen
pub mod Comparing
pub mod LaidOfTwo
pub mod Placing
pub mod TwoRefusals
pub mod WholeStripes
