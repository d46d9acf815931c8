pub mod LidLemmas
pub mod LawLemmas
