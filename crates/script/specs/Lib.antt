pub mod Commands
pub mod LinesLeft
pub mod Numbers
pub mod Pieces
pub mod Scripts
