pub mod Report
pub mod Capture
pub mod Faults
pub mod Columns
pub mod Summary
