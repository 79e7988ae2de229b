pub mod Words
pub mod KeyText
