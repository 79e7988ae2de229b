pub mod Answered
pub mod Reads
pub mod Hearing
pub mod Ties
pub mod Sessions
