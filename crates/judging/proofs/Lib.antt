pub mod ColumnRanges
pub mod Judging
pub mod Proved
pub mod RowDecoding
pub mod StripeNumbers
