pub mod Waiting
pub mod Deliveries
pub mod Laws
pub mod Worked
