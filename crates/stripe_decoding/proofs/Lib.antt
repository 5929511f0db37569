pub mod DecodeCall
pub mod DecodedWords
pub mod RangeLoop
pub mod StripeAnswers
