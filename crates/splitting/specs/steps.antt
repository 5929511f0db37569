-- Definitions that only say what the steps of functions make of a slice, or what they test: no promise cites them.
pub mod Unfolding
