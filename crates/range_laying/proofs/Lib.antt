pub mod BlockLaying
pub mod CopiedRows
pub mod FilledRows
pub mod LaidRanges
pub mod PairLoops
pub mod RangeCases
