pub mod Folding
pub mod Telling
pub mod Setting
