pub mod RankLemmas
pub mod DrawnLemmas
pub mod CableLemmas
pub mod AttachmentLemmas
pub mod ThickLemmas
pub mod WrongRowLemmas
pub mod ExampleLemmas
