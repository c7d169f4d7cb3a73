pub mod RulesCover
pub mod RulesSound
pub mod Called
