pub mod LawLemmas
pub mod WrongLemmas
pub mod ExampleLemmas
