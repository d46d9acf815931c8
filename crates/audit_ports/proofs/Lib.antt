pub mod ExampleLemmas
pub mod AuditedLemmas
pub mod WrongLemmas
