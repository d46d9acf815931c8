pub mod GroupLemmas
pub mod IsolationLemmas
pub mod KeptLemmas
pub mod WrongLemmas
pub mod ReplyKeyLemmas
