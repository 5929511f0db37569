pub mod Listing
pub mod Promises
pub mod Worked
