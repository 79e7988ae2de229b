pub mod Fronts
pub mod Totals
pub mod Staying
pub mod Turning
pub mod Changing
pub mod Passing
