pub mod HeldRows
pub mod OwnDump
pub mod OwnLoads
