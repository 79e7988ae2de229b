pub mod Truth
pub mod Booking
