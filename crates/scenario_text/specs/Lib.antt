pub mod Sources
pub mod Text
pub mod Reading
pub mod Worked
pub mod New
