pub mod Changes
pub mod Truth
pub mod Histories
pub mod Promised
pub mod PlanSteps
