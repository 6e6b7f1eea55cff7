pub mod Streams
pub mod Errors
