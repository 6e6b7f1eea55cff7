pub mod StartPairs
pub mod TablesAccepted
