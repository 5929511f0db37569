pub mod BackRefusals
pub mod BlockSearch
pub mod FindingBack
pub mod HeldStripes
pub mod TakingLast
pub mod WholeStripes
