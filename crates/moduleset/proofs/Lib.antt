pub mod Digits
pub mod Sets
pub mod Members
