pub mod WordBytes
pub mod ErasureLists
pub mod ImageRefusals
pub mod ImageWords
pub mod Marking
pub mod Pairs
pub mod StripeLoads
