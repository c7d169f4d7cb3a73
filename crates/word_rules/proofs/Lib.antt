mod NumberLemmas
pub mod ValueLemmas
pub mod CountLemmas
pub mod ReadLemmas
mod RefusalLemmas
pub mod RangeLemmas
