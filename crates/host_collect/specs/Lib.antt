pub mod Cutting
pub mod Collecting
pub mod PackedUploads
