-- Sequential statements that hold no others, read twice.
use Rattle.std.proofs.Common.{◌≡◌, ℕ, Bool, true, false, if◌then◌else◌, List, [], ◌∷◌, ◌++◌, length, Option, refl, sym, subst}
use Rattle.std.specs.Prelude.{nat_eq}
use Rattle.std.specs.List.{list_any}
use Rattle.ams_token.specs.declared.token.Place.{Place}
use Rattle.ams_tree.specs.declared.expression.Name.{Name}
use Rattle.ams_tree.specs.declared.expression.Expr.{Expr}
use Rattle.ams_tree.specs.declared.sequential.Assertion.{Assertion}
use Rattle.ams_tree.specs.declared.sequential.BreakElement.{BreakElement}
use Rattle.ams_tree.specs.declared.sequential.DelayMechanism.{DelayMechanism}
use Rattle.ams_tree.specs.declared.sequential.WaveformElement.{WaveformElement}
use Rattle.ams_value.specs.declared.value_type.ValueType.TheVariants as t
use Rattle.flat_expr.specs.declared.statement.Statement.{Statement}
use Rattle.name_scope.specs.declared.thing.Kind.TheVariants.{Of}
use Rattle.name_scope.specs.declared.thing.Subtype.{Subtype}
use Rattle.name_scope.specs.declared.scope.Scope.{Scope}
use Rattle.name_scope.specs.Scopes.{lookup}
use Rattle.elab_meaning.specs.declared.fault.Notes.{Notes}
use Rattle.elab_meaning.specs.declared.part.Part.{Part}
use Rattle.elab_meaning.specs.declared.part.Part.TheVariants.{Kept, Wrong, Hidden}
use Rattle.elab_meaning.specs.Parts.{judged, both, closed, found_thing}
use Rattle.elab_meaning.specs.Subtypes.{suits}
use Rattle.unit_meaning.specs.declared.draft.Draft.{Draft}
use Rattle.unit_meaning.specs.declared.draft.Seen.{Seen}
use Rattle.unit_meaning.specs.declared.draft.Spot.{Spot}
use Rattle.unit_meaning.specs.Settings.{Setting, running, typed, value_of, may_be, condition, paired}
use Rattle.unit_meaning.specs.Waveforms.{mechanism, waveform, assigning, assignment}
use Rattle.unit_meaning.specs.Bare.{sensitivity, break_elements}
use Rattle.unit_meaning.specs.Sequential.{with_driver, variable_of, setting_variable, variable_assignment, broken, break_statement, in_loop, leaving, waiting, wait_statement, text_or, assertion_parts, asserted, assertion, simple, whole, driving}
use Rattle.flat_expr.specs.declared.expr.FlatExpr.{FlatExpr}
use Rattle.flat_expr.specs.declared.expr.SignalName.{SignalName}
use Rattle.flat_expr.specs.declared.statement.BreakElement.{BreakElement as Broken}
use Rattle.flat_expr.specs.declared.statement.DelayMechanism.{DelayMechanism as Mechanism}
use Rattle.flat_expr.specs.declared.statement.Severity.{Severity}
use Rattle.flat_expr.specs.declared.statement.WaveElement.{WaveElement}
use Rattle.elab_meaning.specs.declared.typed.Typed.{Typed}
use Rattle.again_laws.specs.Again.{BreaksAlike}
use Rattle.again_laws.proofs.Breaks.{breaks_on}
use Rattle.again_laws.proofs.Steps.{LikeTyped}
use Rattle.again_part_laws.proofs.Like.{Any, Same, Formed, like_self, judged_like, both_like, formed_where, sealed_like, breaks_closed, ReadsAs}
use Rattle.again_part_laws.proofs.Parts.{thing_as, typed_as, may_as, condition_as, sensitivity_as, breaks_as, assertion_as, mechanism_as, waveform_as}

-- ---- two readings

-- from the drafts `d` and `e`
pub record DraftsAs (A : Type 0) (d e : Draft) (f g : Draft × Part A) : Type 0 where
  pub breaks : BreaksAlike d.notes e.notes f.0.notes g.0.notes
  pub variables : f.0.variables ≡ g.0.variables
  pub like : Formed A f.1 g.1

pub record CasesAs (A : Type 0) (d e : Draft) (f g : Draft × (Seen × Part A)) : Type 0 where
  pub breaks : BreaksAlike d.notes e.notes f.0.notes g.0.notes
  pub variables : f.0.variables ≡ g.0.variables
  pub seen : f.1.0 ≡ g.1.0
  pub like : Formed A f.1.1 g.1.1

driver_variables : (i : ℕ) (d : Draft) → (with_driver i d).variables ≡ d.variables
driver_variables i d = go (list_any (nat_eq i) d.drivers)
  where
    go : (b : Bool) → (if b then d else record d { drivers = d.drivers ++ i ∷ [] }).variables ≡ d.variables
    go true = refl
    go false = refl

pub driving_variables : (to : Part (ℕ × Subtype)) (d : Draft) → (driving to d).variables ≡ d.variables
driving_variables (Kept to) d = driver_variables to.0 d
driving_variables Wrong d = refl
driving_variables Hidden d = refl

-- a statement that holds no others, on drafts with the same variables as those before it
pub simple_as : (place : Place) (d e a b : Draft) (f g : Notes × Part Statement) → a.variables ≡ b.variables → ReadsAs Statement (Any Statement) d.notes e.notes f g
    → DraftsAs Statement d e (simple place a f) (simple place b g)
simple_as place d e a b f g same h =
    record {
      breaks = breaks_on d.notes e.notes f.0 g.0 (closed place f.1 f.0) (closed place g.1 g.0) h.breaks (breaks_closed Statement (Any Statement) place f.1 g.1 h.like f.0 g.0);
      variables = same;
      like = sealed_like Statement (Any Statement) f.1 g.1 h.like;
    }

pub whole_as : (place : Place) (d e : Draft) (f g : Draft × Part Statement) → DraftsAs Statement d e f g → DraftsAs Statement d e (whole place f) (whole place g)
whole_as place d e f g h =
    record {
      breaks =
          breaks_on d.notes e.notes f.0.notes g.0.notes (closed place f.1 f.0.notes) (closed place g.1 g.0.notes) h.breaks
          (breaks_closed Statement (Any Statement) place f.1 g.1 h.like f.0.notes g.0.notes);
      variables = h.variables;
      like = sealed_like Statement (Any Statement) f.1 g.1 h.like;
    }

-- ---- statements that hold no others

module _ (w : Setting) where
  pub assignment_as : (scope : Scope) (to : Part (ℕ × Subtype)) (delay : Option DelayMechanism) (xs : List WaveformElement) (n m : Notes)
      → ReadsAs Statement (Any Statement) n m (assignment w scope to delay xs n) (assignment w scope to delay xs m)
  assignment_as scope to delay xs n m =
      let a = mechanism w scope delay n in
      let b = mechanism w scope delay m in
      let f = waveform w scope to xs a.0 in
      let g = waveform w scope to xs b.0 in
      let first : ReadsAs Mechanism (Any Mechanism) n m a b = mechanism_as w scope delay n m in
      let second : ReadsAs (List WaveElement) (Any (List WaveElement)) a.0 b.0 f g = waveform_as w scope to xs a.0 b.0 in
      record {
        breaks = breaks_on n m a.0 b.0 f.0 g.0 first.breaks second.breaks;
        like =
            both_like (ℕ × Subtype) (Mechanism × List WaveElement) Statement (Any (ℕ × Subtype)) (Any (Mechanism × List WaveElement)) (Any Statement) assigning assigning (λ a c b d i j. tt) to to
            (both paired a.1 f.1) (both paired b.1 g.1) (like_self (ℕ × Subtype) (Any (ℕ × Subtype)) (λ z. tt) to)
            (both_like Mechanism (List WaveElement) (Mechanism × List WaveElement) (Any Mechanism) (Any (List WaveElement)) (Any (Mechanism × List WaveElement)) paired paired (λ a c b d i j. tt)
            a.1 b.1 f.1 g.1 first.like second.like);
      }

  variable_formed : (a c : ℕ × Subtype) (b d : Typed) → a ≡ c → LikeTyped b d → Formed Statement (setting_variable a b) (setting_variable c d)
  variable_formed a c b d h k =
      subst (λ (z : ℕ × Subtype). Formed Statement (setting_variable a b) (setting_variable z d)) h
      (subst (λ (z : Typed). Formed Statement (setting_variable a b) (setting_variable a z)) (sym k.1) (formed_where Statement (suits a.1 (value_of b)) _ _))

  pub variable_as : (x : Name) (value : Expr) (scope : Scope) (n m : Notes)
      → ReadsAs Statement (Any Statement) n m (variable_assignment w scope x value n) (variable_assignment w scope x value m)
  variable_as x value scope n m =
      let f = found_thing x (lookup scope x.number) n in
      let g = found_thing x (lookup scope x.number) m in
      let u = typed w scope running value f.0 in
      let v = typed w scope running value g.0 in
      let first : ReadsAs (ℕ × Subtype) (Same (ℕ × Subtype)) n m (f.0, judged variable_of f.1) (g.0, judged variable_of g.1) = thing_as (ℕ × Subtype) variable_of x (lookup scope x.number) n m in
      let second : ReadsAs Typed LikeTyped f.0 g.0 u v = typed_as w scope running value f.0 g.0 in
      record {
        breaks = breaks_on n m f.0 g.0 u.0 v.0 first.breaks second.breaks;
        like =
            both_like (ℕ × Subtype) Typed Statement (Same (ℕ × Subtype)) LikeTyped (Any Statement) setting_variable setting_variable variable_formed (judged variable_of f.1) (judged variable_of g.1)
            u.1 v.1 first.like second.like;
      }

  pub wait_as : (names : List Expr) (until time : Option Expr) (scope : Scope) (d e : Draft)
      → ReadsAs Statement (Any Statement) d.notes e.notes (wait_statement w scope names until time d) (wait_statement w scope names until time e)
  wait_as names until time scope d e =
      let a = sensitivity w scope names d.notes in
      let b = sensitivity w scope names e.notes in
      let x = condition w scope until a.0 in
      let y = condition w scope until b.0 in
      let u = may_be w scope running (Of t.Time) time x.0 in
      let v = may_be w scope running (Of t.Time) time y.0 in
      let first : ReadsAs (List SignalName) (Any (List SignalName)) d.notes e.notes a b = sensitivity_as w scope names d.notes e.notes in
      let second : ReadsAs (Option FlatExpr) (Any (Option FlatExpr)) a.0 b.0 x y = condition_as w scope until a.0 b.0 in
      let third : ReadsAs (Option FlatExpr) (Any (Option FlatExpr)) x.0 y.0 u v = may_as w scope running (Of t.Time) time x.0 y.0 in
      record {
        breaks = breaks_on d.notes e.notes a.0 b.0 u.0 v.0 first.breaks (breaks_on a.0 b.0 x.0 y.0 u.0 v.0 second.breaks third.breaks);
        like =
            both_like (List SignalName) (Option FlatExpr × Option FlatExpr) Statement (Any (List SignalName)) (Any (Option FlatExpr × Option FlatExpr)) (Any Statement) (waiting (length d.waits) names)
            (waiting (length e.waits) names) (λ a c b d i j. tt) a.1 b.1 (both paired x.1 u.1) (both paired y.1 v.1) first.like
            (both_like (Option FlatExpr) (Option FlatExpr) (Option FlatExpr × Option FlatExpr) (Any (Option FlatExpr)) (Any (Option FlatExpr)) (Any (Option FlatExpr × Option FlatExpr)) paired paired
            (λ a c b d i j. tt) x.1 y.1 u.1 v.1 second.like third.like);
      }

  pub break_as : (elements : List BreakElement) (x : Option Expr) (scope : Scope) (n m : Notes)
      → ReadsAs Statement (Any Statement) n m (break_statement w scope elements x n) (break_statement w scope elements x m)
  break_as elements x scope n m =
      let a = break_elements w scope elements n in
      let b = break_elements w scope elements m in
      let u = condition w scope x a.0 in
      let v = condition w scope x b.0 in
      let first : ReadsAs (List Broken) (Any (List Broken)) n m a b = breaks_as w scope elements n m in
      let second : ReadsAs (Option FlatExpr) (Any (Option FlatExpr)) a.0 b.0 u v = condition_as w scope x a.0 b.0 in
      record {
        breaks = breaks_on n m a.0 b.0 u.0 v.0 first.breaks second.breaks;
        like = both_like (List Broken) (Option FlatExpr) Statement (Any (List Broken)) (Any (Option FlatExpr)) (Any Statement) broken broken (λ a c b d i j. tt) a.1 b.1 u.1 v.1 first.like second.like;
      }

  pub leaving_as : (make : Option FlatExpr → Statement) (x : Option Expr) (scope : Scope) (s : Spot) (n m : Notes)
      → ReadsAs Statement (Any Statement) n m (leaving w scope s make x n) (leaving w scope s make x m)
  leaving_as make x scope s n m =
      let read : ReadsAs (Option FlatExpr) (Any (Option FlatExpr)) n m (condition w scope x n) (condition w scope x m) = condition_as w scope x n m in
      record {
        breaks = read.breaks;
        like =
            judged_like (Option FlatExpr) Statement (Any (Option FlatExpr)) (Any Statement) (in_loop s make) (in_loop s make) (λ a b h. formed_where Statement s.is_in_loop (make a) (make b))
            (condition w scope x n).1 (condition w scope x m).1 read.like;
      }

  pub assert_as : (a : Assertion) (scope : Scope) (n m : Notes) → ReadsAs Statement (Any Statement) n m (assertion w scope a n) (assertion w scope a m)
  assert_as a scope n m =
      let read : ReadsAs (FlatExpr × Severity) (Any (FlatExpr × Severity)) n m (assertion_parts w scope a n) (assertion_parts w scope a m) = assertion_as w scope a n m in
      record {
        breaks = read.breaks;
        like =
            judged_like (FlatExpr × Severity) Statement (Any (FlatExpr × Severity)) (Any Statement) (asserted (text_or w.texts a.text)) (asserted (text_or w.texts a.text)) (λ a b h. tt)
            (assertion_parts w scope a n).1 (assertion_parts w scope a m).1 read.like;
      }
