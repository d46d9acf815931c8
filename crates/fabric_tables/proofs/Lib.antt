mod TextLemmas
mod UsedLemmas
mod WholeLemmas
pub mod LinearWholeLemmas
