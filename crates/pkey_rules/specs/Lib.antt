pub mod PKey
pub mod KeyTable
pub mod StoredKeys
pub mod Laws
