pub mod Bits
pub mod Layout
pub mod Faults
pub mod Unpacking
pub mod Known
pub mod Worked
