pub mod Agreeing
pub mod Choosing
pub mod RecoverTwoCall
pub mod ShelfOfTwoCall
pub mod TwoTests
pub mod steps
