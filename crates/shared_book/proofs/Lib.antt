pub mod Replies
pub mod Turning
pub mod Closing
pub mod Keeping
pub mod Crossing
pub mod Told
pub mod Chained
