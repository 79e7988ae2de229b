pub mod Views
pub mod Rules
pub mod Plays
pub mod Closing
