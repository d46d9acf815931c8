pub mod KnownBytesLemmas
pub mod LawLemmas
pub mod LineLemmas
pub mod TimeLemmas
pub mod TakenLemmas
