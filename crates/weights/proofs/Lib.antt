pub mod ColumnLaws
pub mod DigitSums
pub mod DirectLaws
pub mod ExponentLaws
pub mod PartLaws
pub mod SumLaws
