pub mod TakeBackCall
pub mod TakingBack
pub mod steps
