pub mod Nets
pub mod Places
pub mod Meaning
pub mod Changes
pub mod Uniting
pub mod Strapping
