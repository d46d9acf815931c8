pub mod RowLemmas
pub mod EndLemmas
pub mod SoundLemmas
