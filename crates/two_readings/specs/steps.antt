-- Definitions that only say what the steps of functions give: no promise cites them.
pub mod Pairs
