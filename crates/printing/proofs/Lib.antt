pub mod FewPins
pub mod Longest
pub mod PagesFit
pub mod Agree
pub mod AgreeWhole
pub mod Enough
pub mod ReadPart
pub mod Answered
