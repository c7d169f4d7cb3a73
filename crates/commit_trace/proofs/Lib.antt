pub mod BitLemmas
pub mod TextLemmas
pub mod UnknownLemmas
