-- What a crate above can name: this crate's definitions and promises, and those of other crates that the contracts of src/calls.rt and the promises cite.
pub mod Boundary
pub mod Event
pub mod History
pub mod Model
pub mod promises
pub mod Round
pub mod Standing
pub mod Worked
pub mod WorkedBytes
pub mod WorkedBack
pub mod WorkedTwo
pub mod WorkedStrikes
pub use Rattle.code.specs.Stripe
pub use Rattle.decoder.specs.Decoding as ColumnDecoding
pub use Rattle.layout.specs.Header
pub use Rattle.layout.specs.Records
pub use Rattle.layout.specs.Refusals
pub use Rattle.store.specs.Buffers
pub use Rattle.store.specs.StoreCalls
pub use Rattle.splitting.specs.Splitting
pub use Rattle.taking_back.specs.TakingBack
pub use Rattle.taking_back.specs.TakeBackCall
pub use Rattle.image.specs.Image
pub use Rattle.image.specs.Erasures
pub use Rattle.image.specs.Loading
pub use Rattle.image.specs.ImageCall
pub use Rattle.judging.specs.Decoding as RowDecoding
pub use Rattle.judging.specs.Promises as RowPromises
pub use Rattle.stripe_decoding.specs.Decoding as StripeDecoding
pub use Rattle.stripe_decoding.specs.StripeCall
pub use Rattle.recovery.specs.Origins
pub use Rattle.recovery.specs.RecoveryCall
pub use Rattle.recovery.specs.Verdicts
pub use Rattle.two_readings.specs.Agreeing
pub use Rattle.two_readings.specs.Choosing
pub use Rattle.two_readings.specs.RecoverTwoCall
pub use Rattle.two_readings.specs.ShelfOfTwoCall
pub use Rattle.explanation.specs.Counts
pub use Rattle.explanation.specs.ExplainCall
pub use Rattle.power_table.specs.PowersCall
