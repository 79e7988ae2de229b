pub mod Idle
pub mod Held
pub mod Steps
pub mod Progress
pub mod Room
pub mod Acked
pub mod Coming
pub mod Fewness
