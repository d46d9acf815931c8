pub mod LineLemmas
pub mod NumberLemmas
pub mod LineWordsLemmas
pub mod ContentLemmas
pub mod WordLemmas
pub mod ScanLemmas
pub mod RowLemmas
