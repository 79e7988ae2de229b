pub mod States
pub mod Uploader
