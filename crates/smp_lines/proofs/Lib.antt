pub mod AnsweredLemmas
pub mod HeardLemmas
