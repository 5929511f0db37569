pub mod Laid
pub mod steps
