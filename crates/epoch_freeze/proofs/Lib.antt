pub mod Histories
pub mod Zeros
