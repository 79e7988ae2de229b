pub mod Spelling
pub mod ShapeFields
pub mod Reading
pub mod Law
pub mod Uploads
pub mod Packing
pub mod Worked
