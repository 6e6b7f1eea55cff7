pub mod Reckoning
pub mod Promise
pub mod Runs
pub mod Plans
pub mod PlanCalls
