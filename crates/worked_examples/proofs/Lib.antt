pub mod Apart
pub mod Images
pub mod Bodies
pub mod Greatest
pub mod Allowed
pub mod Kept
