pub mod PayloadLemmas
pub mod MaskLemmas
pub mod PutLemmas
pub mod AskedLemmas
pub mod AskLoopLemmas
pub mod CommandLemmas
