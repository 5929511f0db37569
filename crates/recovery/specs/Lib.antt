pub mod Origins
pub mod Recovery
pub mod RecoveryCall
pub mod Verdicts
pub mod steps
