pub mod MaskSoundLemmas
pub mod MaskExampleLemmas
