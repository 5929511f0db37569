pub mod FirstFilled
pub mod HalfBack
pub mod HalvesLoop
pub mod LevelsBelow
pub mod Lowest
pub mod SplitLog
pub mod SplitRows
