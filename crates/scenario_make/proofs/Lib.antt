pub mod Lists
pub mod WorkedRound
pub mod Declarations
pub mod Bursts
pub mod Whole
pub mod Made
