pub mod Changes
pub mod Commands
pub mod Numbers
