pub mod Decoding
pub mod Promises
pub mod StripeFits
pub mod steps
