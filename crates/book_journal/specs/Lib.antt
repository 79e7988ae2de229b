pub mod Applied
pub mod Crashes
pub mod Looking
pub mod Runs
pub mod Opening
pub mod Applying
pub mod Kept
