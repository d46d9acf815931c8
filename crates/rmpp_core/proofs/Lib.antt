pub mod ReplyLemmas
pub mod CutLemmas
pub mod ReceivingLemmas
pub mod AckLemmas
pub mod ReadBackLemmas
pub mod WholeLemmas
pub mod TableLemmas
pub mod NumberLemmas
