pub mod Fields
pub mod Columns
pub mod Shapes
pub mod Kept
pub mod Each
pub mod Same
