pub mod TraceLemmas
pub mod DeliveryLemmas
pub mod EndLemmas
pub mod SpreadLemmas
pub mod LawLemmas
pub mod ShownLemmas
pub mod WrongLemmas
