pub mod Entries
pub mod Applying
pub mod Blocks
pub mod Kept
pub mod Order
pub mod Tally
pub mod Law
pub mod Outcomes
