pub mod WordLemmas
pub mod KeyLemmas
pub mod ByteLemmas
pub mod FrontLemmas
