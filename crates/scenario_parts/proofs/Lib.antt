pub mod ApartLemmas
pub mod CountLemmas
pub mod LengthLemmas
pub mod PrintLemmas
