pub mod Budgets
pub mod DecisionLaws
pub mod Outcomes
pub mod Decisions
pub mod Places
pub mod Giving
