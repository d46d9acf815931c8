pub mod Headline
pub mod WrongRules
pub mod Texts
pub mod TextWrongRules
