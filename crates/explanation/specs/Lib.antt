pub mod Counts
pub mod ExplainCall
