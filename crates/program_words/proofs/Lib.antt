mod UseLemmas
mod WalkLemmas
mod CommandLemmas
pub mod AskedLemmas
