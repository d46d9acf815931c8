pub mod KeyTableLemmas
pub mod PKeyLemmas
pub mod StoredKeyLemmas
