pub mod Rows
pub mod Layered
pub mod Refusals
pub mod Changed
