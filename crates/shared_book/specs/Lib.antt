pub mod Replying
pub mod Going
pub mod Passes
pub mod Steps
pub mod Answering
