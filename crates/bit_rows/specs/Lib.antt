pub mod Rows
pub mod Means
