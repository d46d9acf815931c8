pub mod SumLemmas
pub mod KeyLemmas
pub mod TalkLemmas
pub mod PairLemmas
pub mod OrderLemmas
pub mod LineLemmas
pub mod CableLemmas
pub mod ArrivalLemmas
pub mod LevelLemmas
pub mod WrongLemmas
pub mod ExampleLemmas
pub mod EachPairLemmas
mod TextLemmas
mod WrongTextLemmas
