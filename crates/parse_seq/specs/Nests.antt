-- A function value that reads a statement one level lower.
use Rattle.std.specs.Prelude.{ℕ, Result}
use Rattle.std.specs.declared.alloc.Global.{Global}
use denote.Ref.{MutBor}
use Rattle.ams_tree.specs.declared.sequential.Seq.{Seq}
use Rattle.parse_steps.specs.declared.reader.Stop.{Stop}
use Rattle.parse_steps.specs.State.{State}
use Rattle.parse_steps.specs.Reading.{Reads}
use Rattle.parse_steps.specs.Reply.{most_operators}
use Rattle.parse_seq.specs.Parsing.{nested}

pub record Nests (levels : ℕ) (pre : Global → MutBor State → ℕ → Type 0)
    (post : Global → MutBor State → ℕ → Result Seq Stop → MutBor State → Type 0) : Type 0 where
  pub callable : (alloc : Global) (old : MutBor State) → pre alloc old levels
  pub reads : (alloc : Global) (old new : MutBor State) (r : Result Seq Stop) → post alloc old levels r new
      → Reads (nested most_operators levels old.now) r new.now
