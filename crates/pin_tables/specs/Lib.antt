pub mod Tables
pub mod Means
