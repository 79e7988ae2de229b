pub mod Paired
pub mod History
