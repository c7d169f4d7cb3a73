pub mod Budgets
pub mod NamedRun
pub mod Runs
