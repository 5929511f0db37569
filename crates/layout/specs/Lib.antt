pub mod Header
pub mod Records
pub mod Refusals
pub mod ValidHeaders
