pub mod RangeDecoding
