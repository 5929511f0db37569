pub mod Erasures
pub mod Image
pub mod ImageCall
pub mod ImageTests
pub mod Loading
pub mod Readings
pub mod steps
