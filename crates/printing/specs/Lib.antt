pub mod PageRuns
pub mod Printed
pub mod FirstBytes
pub mod Readers
