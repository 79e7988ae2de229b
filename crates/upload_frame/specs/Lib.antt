pub mod Front
pub mod Machine
pub mod Frames
pub mod Replies
pub mod Sides
pub mod Law
pub mod Worked
pub mod Pooled
