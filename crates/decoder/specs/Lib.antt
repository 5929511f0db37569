pub mod Decoding
pub mod Promises
pub mod steps
