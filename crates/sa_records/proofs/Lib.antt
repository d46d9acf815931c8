mod SpeedLemmas
mod ReadLemmas
mod AskedLemmas
mod NumberLemmas
