pub mod Whys
pub mod Sections
pub mod Index
pub mod Spelling
pub mod Draft
pub mod Fields
pub mod Line
pub mod PrintedLen
