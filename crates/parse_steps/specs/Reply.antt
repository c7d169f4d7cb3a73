-- What a call that reads a text of a rule from a place on answers.
use Rattle.std.specs.Prelude.{◌≡◌, ◌+◌, ◌-◌, ℕ, List, drop, Result, Ok, Err}
use Rattle.ams_token.specs.declared.token.Token.{Token}
use Rattle.ams_tree.specs.Rule.{Rule}
use Rattle.ams_tree.specs.Answer.{IsRead, IsSyntax, IsTooDeep}
use Rattle.parse_steps.specs.declared.limits.TheConstants.{MOST_LEVELS, MOST_OPERATORS}
use Rattle.parse_steps.specs.declared.reader.Stop.{Stop}
use Rattle.parse_steps.specs.declared.reader.Stop.TheVariants as stop
use Rattle.parse_steps.specs.declared.fault.ParseFault.{ParseFault}
use Rattle.parse_steps.specs.declared.fault.ParseFault.TheVariants.{Memory, Syntax, TooDeep}

-- how many levels may be open one in another
abbrev pub most_levels : ℕ
most_levels = MOST_LEVELS

-- how many operators, calls and attributes an outermost expression may have
abbrev pub most_operators : ℕ
most_operators = MOST_OPERATORS

-- A place is counted from the first token.
abbrev pub Answers : {A : Type 0} → (ℕ → ℕ → Rule A) → ℕ → List Token → ℕ → Result (A × ℕ) ParseFault → Type 0
Answers rule levels tokens at (Ok p) = (len : ℕ) × (p.1 ≡ at + len) × IsRead rule levels most_operators (drop at tokens) p.0 len
Answers rule levels tokens at (Err Memory) = Unit {0}
Answers rule levels tokens at (Err (Syntax place)) = (len : ℕ) × (place ≡ at + len) × IsSyntax rule levels most_operators (drop at tokens) len
Answers rule levels tokens at (Err (TooDeep place)) = (len : ℕ) × (place ≡ at + len) × IsTooDeep rule levels most_operators (drop at tokens) len

-- this tree with this place behind it, unless memory ran out
abbrev pub IsTree : {A : Type 0} → A → ℕ → Result (A × ℕ) ParseFault → Type 0
IsTree tree place (Ok p) = (p.0 ≡ tree) × (p.1 ≡ place)
IsTree tree place (Err Memory) = Unit {0}
IsTree tree place (Err (Syntax k)) = ⊥
IsTree tree place (Err (TooDeep k)) = ⊥

-- a stop with its place among so many tokens
abbrev pub fault_of : ℕ → Stop → ParseFault
fault_of len stop.Memory = Memory
fault_of len (stop.Syntax left) = Syntax (len - left)
fault_of len (stop.TooDeep left) = TooDeep (len - left)
