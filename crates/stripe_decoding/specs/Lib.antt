pub mod Decoding
pub mod StripeCall
pub mod steps
