pub mod Buffers
pub mod StoreCalls
pub mod Writing
pub mod steps
