pub mod Disk
pub mod Model
pub mod Laws
pub mod Memory
pub mod Choices
pub mod File
