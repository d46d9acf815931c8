pub mod NumberLemmas
pub mod WindowLemmas
pub mod AlignedLemmas
pub mod LayoutLemmas
pub mod PutLemmas
pub mod ReadLemmas
pub mod StatusLemmas
