-- The place that a stack stands for.
use Rattle.std.specs.Prelude.{◌≡◌, ◌<◌, ℕ, ◌+◌, ◌-◌, length, take, Bool, true, false, ℤ, List, [], ◌∷◌, Option, Some, None}
use Rattle.flat_expr.specs.declared.statement.Statement.{Statement, out-Statement}
use Rattle.flat_expr.specs.declared.statement.Statement.TheOpen.{Statement-F}
use Rattle.cycle_meaning.specs.Task.{Layer}
use Rattle.design_rules.specs.Ways.{layer_at, inner_body}
use Rattle.process_laws.specs.Resumed.{Surroundings, outermost, inside, body_in, AreOf}
use Rattle.process_place.specs.ProcessPlace.{ProcessPlace, at, turning}
use Rattle.process_stack.specs.declared.stack.Frame.{Frame}
use Rattle.process_stack.specs.declared.text.Round.{Round}

-- the statements round a place, the outermost first, the number of the next one, and the first value of the innermost
-- loop's parameter, if its first turn is to come
pub record Stacked : Type 0 where
  pub frames : List Frame
  pub next : ℕ
  pub first : Option ℤ

abbrev pub layer_or_null : Option Layer → Layer
layer_or_null (Some layer) = layer
layer_or_null None = Statement-F.Null

-- inside a statement
abbrev pub within : List Statement → Surroundings → Frame → Surroundings
within top c f = inside c f.statement f.branch (layer_or_null (layer_at f.statement (body_in top c))) f.last

-- the list inside it
abbrev pub body_inside : List Statement → Frame → List Statement
body_inside list f = inner_body f.branch (layer_or_null (layer_at f.statement list))

abbrev pub round_in : List Statement → Surroundings → List Frame → Surroundings
round_in top c [] = c
round_in top c (f ∷ more) = round_in top (within top c f) more

abbrev pub round_of : List Statement → List Frame → Surroundings
round_of top frames = round_in top outermost frames

abbrev pub before_first : Surroundings → ℤ → ℕ → ProcessPlace
before_first outermost from k = at outermost k
before_first (inside c j b layer last) from k = turning c j layer from last

abbrev pub place_by : Option ℤ → Surroundings → ℕ → ProcessPlace
place_by None c k = at c k
place_by (Some from) c k = before_first c from k

-- the place
abbrev pub place_of : List Statement → Stacked → ProcessPlace
place_of top s = place_by s.first (round_of top s.frames) s.next

abbrev pub is_loop : Layer → Bool
is_loop (Statement-F.Loop condition body) = true
is_loop (Statement-F.For p left direction right body) = true
is_loop _ = false

-- these frames, of which the last is inside this statement
pub record IsInside (top : List Statement) (frames : List Frame) (f : Frame) (layer : Layer) : Type 0 where
  pub some : 0 < length frames
  pub round_is : round_of top frames ≡ inside (round_of top (take (length frames - 1) frames)) f.statement f.branch layer f.last
  pub of_text : AreOf top (inside (round_of top (take (length frames - 1) frames)) f.statement f.branch layer f.last)

abbrev pub IsInnermost : List Statement → List Frame → Option Round → Type 0
IsInnermost top frames None = frames ≡ []
IsInnermost top frames (Some r) = IsInside top frames r.frame (out-Statement r.statement.now) × (r.behind ≡ r.frame.statement + 1)
