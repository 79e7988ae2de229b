pub mod Legal
pub mod Leaving
pub mod Keeping
pub mod Truth
pub mod Workers
pub mod Laws
pub mod Rows
