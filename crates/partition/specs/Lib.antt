pub mod Pulls
pub mod Orders
pub mod Rounds
pub mod Splits
