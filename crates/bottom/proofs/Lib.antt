pub mod Asked
pub mod FirstFaults
pub mod Distinct
