pub mod File
pub mod Found
pub mod Between
pub mod Walk
pub mod Reading
pub mod Laws
pub mod Worked
