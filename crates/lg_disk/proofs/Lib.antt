pub mod Images
pub mod Courses
