pub mod Appending
pub mod Growing
pub mod Words
pub mod Shapes
