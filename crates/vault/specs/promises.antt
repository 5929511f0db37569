-- WHAT THE VAULT PROMISES, in rooms: Demands first, which begins with a legend for a reader who knows no Rattle. All has the record of all rooms, of which
-- `proved` of proofs/Proved is the one term.
pub mod Demands
pub mod Histories
pub mod Decoding
pub mod Losses
pub mod Erasures
pub mod Table
pub mod Numbers
pub mod Recovering
pub mod Leaving
pub mod Coding
pub mod Writing
pub mod TakingBack
pub mod TwoReadings
pub mod Answers
pub mod Explaining
pub mod Blanks
pub mod Strikes
pub mod Boundary
pub mod Openings
pub mod All
