pub mod CommandLemmas
pub mod NameLemmas
mod VersionLemmas
