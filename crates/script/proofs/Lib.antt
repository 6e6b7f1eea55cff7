mod Digits
mod Parts
mod Grammar
pub mod Lines
