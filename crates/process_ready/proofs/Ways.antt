-- The parameters of the loops round a place stay on their way.
use Rattle.std.proofs.Common.{◌≡◌, refl, ap, ◌∙◌, ℕ, zero, suc, Bool, true, false, ◌||◌, nat_eq, ℤ, pos, List, [], ◌∷◌, ◌++◌, Some, slice_set, arith}
use Rattle.std.specs.Prelude.{unsigned_abs, nat_le}
use Rattle.std.specs.List.{slice_get, list_any, slice_index_or}
use Rattle.std.specs.Ordering.{int_eq}
use Rattle.std.proofs.lemmas.Int.{ints}
use Rattle.std.proofs.lemmas.Bool.Decides.{nat_tests}
use Rattle.ams_value.specs.declared.val.Val.{Val}
use Rattle.ams_value.specs.declared.val.Val.TheVariants as val
use Rattle.ams_value.specs.Ranges.{most_integer}
use Rattle.flat_expr.specs.declared.expr.Direction.{Direction}
use Rattle.flat_expr.specs.declared.expr.Direction.TheVariants.{To, Downto}
use Rattle.flat_expr.specs.declared.statement.Statement.{Statement}
use Rattle.flat_expr.specs.declared.statement.Statement.TheOpen.{Statement-F}
use Rattle.cycle_meaning.specs.Task.{Layer}
use Rattle.cycle_meaning.specs.World.{Local}
use Rattle.cycle_meaning.specs.Statements.{integer_of}
use Rattle.cycle_meaning.specs.Processes.{stepped, parameter_of}
use Rattle.design_rules.specs.Ways.{parameter_in}
use Rattle.process_laws.specs.Resumed.{Surroundings, outermost, inside}
use Rattle.process_laws.proofs.Places.{parameters_round}
use Rattle.process_laws.proofs.HeldMoves.{get_set_other, or_apart}
use Rattle.statement_values.specs.LoopRanges.{IsOnWay}
use Rattle.process_place.specs.Moves.{behind_loop_at, end_of_turn_at}
use Rattle.process_ready.specs.Allowed.{IsInteger, LeadsOn, LeadRound, LeadAt}

none_of_both : (t : ℕ → Bool) (xs ys : List ℕ) → list_any t (xs ++ ys) ≡ false → (list_any t xs ≡ false) × (list_any t ys ≡ false)
none_of_both t [] ys h = (refl, h)
none_of_both t (x ∷ xs) ys h =
    let apart = or_apart (t x) (list_any t (xs ++ ys)) h in
    let more = none_of_both t xs ys apart.1 in
    (ap (λ b. b || list_any t xs) apart.0 ∙ more.0, more.1)

-- ---- a variable that is none of them changes

leads_other : (vs : List Val) (i : ℕ) (v : Val) (layer : Layer) (last : ℤ) → list_any (nat_eq i) (parameter_in layer) ≡ false → LeadsOn vs layer last → LeadsOn (slice_set vs i v) layer last
leads_other vs i v (Statement-F.For p left direction right body) last h way =
    (way.0, get_set_other vs i p v (or_apart (nat_eq i p) false h).0 ∙ way.1, way.2, way.3)
leads_other vs i v (Statement-F.SignalAssignment _ _ _ _) last h way = tt
leads_other vs i v (Statement-F.VariableAssignment _ _ _) last h way = tt
leads_other vs i v (Statement-F.If _ _) last h way = tt
leads_other vs i v (Statement-F.Case _ _) last h way = tt
leads_other vs i v (Statement-F.Loop _ _) last h way = tt
leads_other vs i v (Statement-F.Exit _) last h way = tt
leads_other vs i v (Statement-F.Next _) last h way = tt
leads_other vs i v (Statement-F.Wait _ _ _ _) last h way = tt
leads_other vs i v (Statement-F.Assert _ _ _) last h way = tt
leads_other vs i v (Statement-F.Report _ _) last h way = tt
leads_other vs i v (Statement-F.Break _ _) last h way = tt
leads_other vs i v Statement-F.Null last h way = tt

pub lead_other : (vs : List Val) (i : ℕ) (v : Val) (c : Surroundings) → list_any (nat_eq i) (parameters_round c) ≡ false → LeadRound vs c → LeadRound (slice_set vs i v) c
unfolding parameters_round
lead_other vs i v outermost h way = tt
lead_other vs i v (inside c k b layer last) h way =
    let apart : (list_any (nat_eq i) (parameters_round c) ≡ false) × (list_any (nat_eq i) (parameter_in layer) ≡ false) = none_of_both (nat_eq i) (parameters_round c) (parameter_in layer) h in
    (lead_other vs i v c apart.0 way.0, leads_other vs i v layer last apart.1 way.1)

pub alone : (t : ℕ → Bool) (ps : List ℕ) → list_any t (ps ++ []) ≡ false → list_any t ps ≡ false
alone t ps h = (none_of_both t ps [] h).0

-- ---- the places to which exits and next turns lead

pub lead_behind : (vs : List Val) (top : List Statement) (c : Surroundings) → LeadRound vs c → LeadAt vs (behind_loop_at top c)
lead_behind vs top outermost way = tt
lead_behind vs top (inside c k b (Statement-F.Loop _ _) last) way = way.0
lead_behind vs top (inside c k b (Statement-F.For _ _ _ _ _) last) way = way.0
lead_behind vs top (inside c k b (Statement-F.SignalAssignment _ _ _ _) last) way = lead_behind vs top c way.0
lead_behind vs top (inside c k b (Statement-F.VariableAssignment _ _ _) last) way = lead_behind vs top c way.0
lead_behind vs top (inside c k b (Statement-F.If _ _) last) way = lead_behind vs top c way.0
lead_behind vs top (inside c k b (Statement-F.Case _ _) last) way = lead_behind vs top c way.0
lead_behind vs top (inside c k b (Statement-F.Exit _) last) way = lead_behind vs top c way.0
lead_behind vs top (inside c k b (Statement-F.Next _) last) way = lead_behind vs top c way.0
lead_behind vs top (inside c k b (Statement-F.Wait _ _ _ _) last) way = lead_behind vs top c way.0
lead_behind vs top (inside c k b (Statement-F.Assert _ _ _) last) way = lead_behind vs top c way.0
lead_behind vs top (inside c k b (Statement-F.Report _ _) last) way = lead_behind vs top c way.0
lead_behind vs top (inside c k b (Statement-F.Break _ _) last) way = lead_behind vs top c way.0
lead_behind vs top (inside c k b Statement-F.Null last) way = lead_behind vs top c way.0

pub lead_end : (vs : List Val) (top : List Statement) (c : Surroundings) → LeadRound vs c → LeadAt vs (end_of_turn_at top c)
lead_end vs top outermost way = tt
lead_end vs top (inside c k b (Statement-F.Loop _ _) last) way = way
lead_end vs top (inside c k b (Statement-F.For _ _ _ _ _) last) way = way
lead_end vs top (inside c k b (Statement-F.SignalAssignment _ _ _ _) last) way = lead_end vs top c way.0
lead_end vs top (inside c k b (Statement-F.VariableAssignment _ _ _) last) way = lead_end vs top c way.0
lead_end vs top (inside c k b (Statement-F.If _ _) last) way = lead_end vs top c way.0
lead_end vs top (inside c k b (Statement-F.Case _ _) last) way = lead_end vs top c way.0
lead_end vs top (inside c k b (Statement-F.Exit _) last) way = lead_end vs top c way.0
lead_end vs top (inside c k b (Statement-F.Next _) last) way = lead_end vs top c way.0
lead_end vs top (inside c k b (Statement-F.Wait _ _ _ _) last) way = lead_end vs top c way.0
lead_end vs top (inside c k b (Statement-F.Assert _ _ _) last) way = lead_end vs top c way.0
lead_end vs top (inside c k b (Statement-F.Report _ _) last) way = lead_end vs top c way.0
lead_end vs top (inside c k b (Statement-F.Break _ _) last) way = lead_end vs top c way.0
lead_end vs top (inside c k b Statement-F.Null last) way = lead_end vs top c way.0

-- ---- a further value

index_is : (vs : List Val) (p : ℕ) (d v : Val) → slice_get vs p ≡ Some v → slice_index_or vs p d ≡ v
index_is [] p d v h = absurd (grind arith)
index_is (x ∷ vs) zero d v h = let same : x ≡ v = cc in same
index_is (x ∷ vs) (suc p) d v h = index_is vs p d v h

pub parameter_there : (l : Local) (p : ℕ) (i : ℤ) → slice_get l.variables p ≡ Some (val.Int i) → parameter_of l p ≡ i
parameter_there l p i h = ap integer (index_is l.variables p (val.Int (pos 0)) (val.Int i) h)
  where
    integer : Val → ℤ
    integer v = integer_of v

pub further_way : (direction : Direction) (i last : ℤ) → IsOnWay direction i last → int_eq i last ≡ false → IsOnWay direction (stepped direction i) last
further_way To i last way h = grind (arith, ints)
further_way Downto i last way h = grind (arith, ints)

pub further_integer : (direction : Direction) (i last : ℤ) → IsOnWay direction i last → int_eq i last ≡ false → IsInteger i → IsInteger last → IsInteger (stepped direction i)
further_integer To i last way h a b = grind (arith, ints)
further_integer Downto i last way h a b = grind (arith, ints)

pub in_range_integer : (sizes : List ℕ) (i : ℤ) → IsInteger i → nat_le (unsigned_abs i) most_integer ≡ true
in_range_integer sizes i h = grind (arith, nat_tests)

pub integer_in_range : (i : ℤ) → nat_le (unsigned_abs i) most_integer ≡ true → IsInteger i
integer_in_range i h = grind (arith, nat_tests)
