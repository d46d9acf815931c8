pub mod IndexLemmas
pub mod LoopLemmas
pub mod PairLemmas
pub mod NameLemmas
pub mod TextLemmas
pub mod LawLemmas
pub mod ExampleLemmas
pub mod WrongLemmas
