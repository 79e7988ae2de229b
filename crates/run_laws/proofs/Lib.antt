pub mod Found
pub mod Brought
pub mod Agreeing
pub mod TrueRuns
pub mod Insertions
pub mod Booked
pub mod Bookings
