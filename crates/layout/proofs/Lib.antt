pub mod Bounds
pub mod CopiedWords
pub mod Counting
pub mod FirstLevel
pub mod RecordWords
pub mod Refusals
pub mod StripePlaces
