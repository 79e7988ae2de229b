pub mod PathLemmas
pub mod IndexLemmas
pub mod CountLemmas
pub mod SizeLemmas
pub mod NameLemmas
pub mod KeepingLemmas
pub mod WeightLemmas
