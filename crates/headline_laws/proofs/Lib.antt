pub mod NamedStepLemmas
pub mod HeadlineLemmas
pub mod WrongLemmas
pub mod LargeLemmas
pub mod PortNameLemmas
pub mod LeftLemmas
pub mod TextLemmas
pub mod TextWrongLemmas
