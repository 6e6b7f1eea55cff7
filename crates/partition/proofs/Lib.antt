pub mod Cells
pub mod Keys
pub mod NetKeys
pub mod Turns
pub mod OrderAnswers
pub mod RoundSteps
pub mod HomeSides
mod NextGroups
