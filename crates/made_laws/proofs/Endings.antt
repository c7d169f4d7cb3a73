-- Processes from their statements, and those of concurrent assertions and breaks.
use Rattle.std.proofs.Common.{◌≡◌, ℕ, zero, suc, true, List, [], ◌∷◌, ◌++◌, length, Option, Some, None, refl, ap, sym, subst}
use Rattle.std.specs.Prelude.{nat_eq}
use Rattle.std.specs.List.{All, slice_get, list_any}
use Rattle.std.proofs.lemmas.List.Elements.{All-nil}
use Rattle.ams_token.specs.declared.token.Place.{Place}
use Rattle.ams_tree.specs.declared.expression.Expr.{Expr}
use Rattle.ams_tree.specs.declared.sequential.Assertion.{Assertion}
use Rattle.ams_tree.specs.declared.sequential.BreakElement.{BreakElement}
use Rattle.ams_value.specs.declared.value_type.ValueType.TheVariants.{Boolean}
use Rattle.flat_expr.specs.declared.expr.FlatExpr.{FlatExpr}
use Rattle.flat_expr.specs.declared.expr.SignalName.{SignalName}
use Rattle.flat_expr.specs.declared.subtype.Constraint.{Constraint}
use Rattle.flat_expr.specs.declared.statement.BreakElement.{BreakElement as Broken}
use Rattle.flat_expr.specs.declared.statement.DelayMechanism.{DelayMechanism}
use Rattle.flat_expr.specs.declared.statement.WaveElement.{WaveElement}
use Rattle.flat_expr.specs.declared.statement.Severity.{Severity}
use Rattle.flat_expr.specs.declared.statement.Statement.{Statement, out-Statement}
use Rattle.flat_expr.specs.declared.statement.Statement.TheVariants as statement
use Rattle.flat_expr.specs.declared.statement.Statement.TheVariants.{rolls-Wait, rolls-Assert, rolls-Break}
use Rattle.flat_expr.specs.declared.statement.Statement.TheOpen.{Statement-F}
use Rattle.flat_design.specs.declared.objects.Objects.{Objects}
use Rattle.flat_design.specs.declared.objects.PathStep.{PathStep}
use Rattle.flat_design.specs.declared.objects.Process.{Process}
use Rattle.flat_design.specs.declared.objects.Variable.{Variable}
use Rattle.flat_design.specs.declared.objects.WaitPlace.{WaitPlace}
use Rattle.name_scope.specs.declared.scope.Scope.{Scope}
use Rattle.elab_meaning.specs.declared.fault.Notes.{Notes}
use Rattle.elab_meaning.specs.declared.part.Part.{Part}
use Rattle.elab_meaning.specs.declared.part.Part.TheVariants.{Kept, Wrong, Hidden}
use Rattle.elab_meaning.specs.Parts.{judged, both, closed}
use Rattle.unit_meaning.specs.declared.draft.Draft.{Draft}
use Rattle.unit_meaning.specs.Settings.{Setting, condition, paired}
use Rattle.unit_meaning.specs.Bare.{once, sensitivity, signals_in, signals_in_some, break_elements}
use Rattle.unit_meaning.specs.Sequential.{text_or, assertion_parts}
use Rattle.unit_meaning.specs.Processes.{last_place, ending, endless, asserting, concurrent_assertion, break_signals, breaking, concurrent_break}
use Rattle.cycle_meaning.specs.Task.{Layer}
use Rattle.design_rules.specs.Ways.{layer_at, LeadsTo}
use Rattle.design_rules.specs.Types.{equation_scope, process_scope, IsExpression}
use Rattle.design_rules.specs.Statements.{MayBe, IsSignalName, IsBreakElement, IsAllowed}
use Rattle.design_rules.specs.Design.{IsVariable, IsProcess}
use Rattle.typed_laws.specs.Fitting.{HasRoom}
use Rattle.typed_laws.proofs.Typing.{room_before}
use Rattle.part_laws.specs.Parts.{OnKept, KeepsPart}
use Rattle.part_laws.proofs.Process.{process_parts_fit}
use Rattle.statement_laws.specs.Statements.{HasCondition}
use Rattle.statement_laws.proofs.Statements.{statement_parts_fit}
use Rattle.scope_laws.specs.Holds.{ScopeHolds}
use Rattle.scope_laws.proofs.Scopes.{scopes_hold}
use Rattle.place_laws.specs.Places.{EachPlace, HoldsHere, Stands, Assigns}
use Rattle.place_laws.proofs.Places.{none_stands, one_more_stands, whole_stands}
use Rattle.draft_laws.proofs.Notes.{grows_closed}
use Rattle.allowed_laws.specs.Simple.{HasTexts, SelectorsFit}
use Rattle.allowed_laws.proofs.Simple.{once_all, literal_is_text, read_names, some_names, sensitivity_keeps, elements_keep}
use Rattle.body_laws.specs.Bodies.{AreParameters}
use Rattle.body_laws.proofs.Leaves.{opens_as, sealed_kept, IsPlain, plain_holds}

-- ---- parts by what they are

pub judged_by : (A B : Type 0) (U : B → Type 0) (rule : A → Part B) (q : Part A) → ((a : A) → q ≡ Kept a → OnKept U (rule a)) → OnKept U (judged rule q)
judged_by A B U rule (Kept a) h = h a refl
judged_by A B U rule Wrong h = tt
judged_by A B U rule Hidden h = tt

pub both_by : (A B C : Type 0) (U : C → Type 0) (rule : A → B → Part C) (q : Part A) (r : Part B) → ((a : A) (b : B) → q ≡ Kept a → r ≡ Kept b → OnKept U (rule a b)) → OnKept U (both rule q r)
both_by A B C U rule (Kept a) r h = judged_by B C U (rule a) r (λ b is. h a b refl is)
both_by A B C U rule Wrong (Kept b) h = tt
both_by A B C U rule Wrong Wrong h = tt
both_by A B C U rule Wrong Hidden h = tt
both_by A B C U rule Hidden r h = tt

pub kept_is : (A : Type 0) (R : A → Type 0) (q : Part A) (a : A) → q ≡ Kept a → OnKept R q → R a
kept_is A R q a is h = subst (OnKept R) is h

-- both parts of a pair
pub paired_is : (A B : Type 0) (q : Part A) (r : Part B) (c : A × B) → both paired q r ≡ Kept c → (q ≡ Kept c.0) × (r ≡ Kept c.1)
paired_is A B (Kept a) (Kept b) c is = (ap Kept (first is), ap Kept (second is))
  where
    whole : Kept (a, b) ≡ Kept c → (a, b) ≡ c
    whole e = cc

    first : Kept (a, b) ≡ Kept c → a ≡ c.0
    first e = ap (λ (z : A × B). z.0) (whole e)

    second : Kept (a, b) ≡ Kept c → b ≡ c.1
    second e = ap (λ (z : A × B). z.1) (whole e)
paired_is A B (Kept a) Wrong c is = absurd (cc)
paired_is A B (Kept a) Hidden c is = absurd (cc)
paired_is A B Wrong (Kept b) c is = absurd (cc)
paired_is A B Wrong Wrong c is = absurd (cc)
paired_is A B Wrong Hidden c is = absurd (cc)
paired_is A B Hidden r c is = absurd (cc)

-- ---- further statements behind others

layer_stays : (body : List Statement) (more : List Statement) (k : ℕ) (layer : Layer) → layer_at k body ≡ Some layer → layer_at k (body ++ more) ≡ Some layer
layer_stays [] more zero layer h = absurd (cc)
layer_stays [] more (suc k) layer h = absurd (cc)
layer_stays (s ∷ body) more zero layer h = h
layer_stays (s ∷ body) more (suc k) layer h = layer_stays body more k layer h

assigns_at : (j : ℕ) (body more : List Statement) (steps : List PathStep) (ps : List ℕ) (k : ℕ) (c : Constraint) (m : DelayMechanism) (wave : List WaveElement)
    → LeadsTo steps ps k (Statement-F.SignalAssignment j c m wave) body → Assigns j (body ++ more)
assigns_at j body more [] ps k c m wave to = ([], ps, k, c, m, wave, (to.0, layer_stays body more k (Statement-F.SignalAssignment j c m wave) to.1))
assigns_at j body more (step ∷ steps) ps k c m wave to =
    (step ∷ steps, ps, k, c, m, wave, (to.0, to.1, layer_stays body more step.statement to.0 to.2, to.3, to.4, to.5))

assigns_still : (j : ℕ) (body more : List Statement) → Assigns j body → Assigns j (body ++ more)
assigns_still j body more h = assigns_at j body more h.0 h.1 h.2 h.3 h.4 h.5 h.6

-- ---- processes from their statements

module _ (objects : Objects) where
  pub endless_is : (d : Draft) (all : List Statement) → All (IsVariable objects) d.variables → EachPlace (Stands objects (endless d all)) [] [] all
      → ((j : ℕ) → list_any (nat_eq j) d.drivers ≡ true → Assigns j all) → IsProcess objects (endless d all)
  endless_is d all variables each used = whole_stands objects (endless d all) variables each used

  wait_holds : (d : Draft) (signals : List SignalName) (all : List Statement) → All (IsSignalName objects) signals
      → HoldsHere (Stands objects (ending d signals all)) [] [] (length all) (out-Statement (statement.Wait (length d.waits) signals None None))
  wait_holds d signals all names =
      subst (HoldsHere (Stands objects (ending d signals all)) [] [] (length all))
      (sym (opens_as (statement.Wait (length d.waits) signals None None) (Statement-F.Wait (length d.waits) signals None None) (rolls-Wait (length d.waits) signals None None)))
      (record { allowed = (names, tt, tt); placed = last_wait d.waits (last_place all); safe = tt; own = tt }, λ b is. absurd is)
    where
      last_wait : (waits : List WaitPlace) (x : WaitPlace) → slice_get (waits ++ x ∷ []) (length waits) ≡ Some x
      last_wait [] x = refl
      last_wait (y ∷ waits) x = last_wait waits x

  pub ending_is : (d : Draft) (signals : List SignalName) (all : List Statement) → All (IsVariable objects) d.variables → EachPlace (Stands objects (ending d signals all)) [] [] all
      → All (IsSignalName objects) signals → ((j : ℕ) → list_any (nat_eq j) d.drivers ≡ true → Assigns j all) → IsProcess objects (ending d signals all)
  ending_is d signals all variables each names used =
      whole_stands objects (ending d signals all) variables
      (one_more_stands objects (ending d signals all) [] [] all (statement.Wait (length d.waits) signals None None) each (wait_holds d signals all names))
      (λ j is. assigns_still j all (statement.Wait (length d.waits) signals None None ∷ []) (used j is))

  -- ---- a single statement, and a wait

  abbrev quiet : Draft
  quiet = record { notes = record { faults = []; dots = []; thresholds = [] }; variables = []; drivers = []; waits = [] }

  abbrev single : List SignalName → Statement → Process
  single signals s = ending quiet (once signals) (s ∷ [])

  no_parameters : (variables : List Variable) → AreParameters variables []
  no_parameters variables i h = absurd (nothing i h)
    where
      nothing : (i : ℕ) → list_any (nat_eq i) [] ≡ true → ⊥
      nothing i h = absurd (cc)

  single_is : (signals : List SignalName) (s : Statement) (y : Layer) → out-Statement s ≡ y → IsPlain y → IsAllowed objects (single signals s) [] y → All (IsSignalName objects) signals
      → IsProcess objects (single signals s)
  single_is signals s y e plain allowed names =
      let p = single signals s in
      ending_is quiet (once signals) (s ∷ []) (All-nil (IsVariable objects))
      (one_more_stands objects p [] [] [] s (none_stands objects p [] [])
      (subst (HoldsHere (Stands objects p) [] [] 0) (sym e) (plain_holds objects p [] [] 0 (no_parameters p.variables) y plain allowed)))
      (once_all (IsSignalName objects) signals names) (λ j h. absurd (nothing j h))
    where
      nothing : (i : ℕ) → list_any (nat_eq i) [] ≡ true → ⊥
      nothing i h = absurd (cc)

  room_in : (p : Process) (n : Notes) → HasRoom (equation_scope objects) n → HasRoom (process_scope objects p) n
  room_in p n h = record { dots = h.dots; dot_limit = h.dot_limit; thresholds = h.thresholds; threshold_limit_kept = h.threshold_limit_kept }

  module _ (w : Setting) (scope : Scope) (holds : ScopeHolds (equation_scope objects) [] [] scope) where
    inner : (p : Process) → ScopeHolds (process_scope objects p) p.variables [] scope
    inner p = scopes_hold.in_process objects p [] scope holds

    pub assertion_made : HasTexts w → (a : Assertion) (n : Notes) → HasRoom (equation_scope objects) (concurrent_assertion w scope a n).0 → OnKept (IsProcess objects) (concurrent_assertion w scope a n).1
    assertion_made texts a n room =
        let x = assertion_parts w scope a n in
        let text = text_or w.texts a.text in
        let made = judged (asserting text) x.1 in
        let here : HasRoom (equation_scope objects) x.0 = room_before (equation_scope objects) x.0 (closed a.place made x.0) (grows_closed Process a.place made x.0) room in
        sealed_kept Process (IsProcess objects) made
        (judged_by (FlatExpr × Severity) Process (IsProcess objects) (asserting text) x.1
        (λ e is.
        let s = statement.Assert e.0 text e.1 in
        let p = single (signals_in e.0) s in
        let read : KeepsPart (FlatExpr × Severity) (HasRoom (process_scope objects p)) (HasCondition objects p []) n x = statement_parts_fit.assertions objects p [] w scope a n (inner p).fits in
        let c : IsExpression objects p [] Boolean e.0 = kept_is (FlatExpr × Severity) (HasCondition objects p []) x.1 e is (read.right (room_in p x.0 here)) in
        single_is (signals_in e.0) s (Statement-F.Assert e.0 text e.1) (opens_as s (Statement-F.Assert e.0 text e.1) (rolls-Assert e.0 text e.1)) tt (c, literal_is_text w texts a.text)
        (read_names objects p [] w scope (inner p) Boolean e.0 c)))

    waited : (names : List Expr) (all : List SignalName) (c : Option FlatExpr) → All (IsSignalName objects) all → All (IsSignalName objects) (signals_in_some c) → All (IsSignalName objects) (break_signals names all c)
    waited [] all c h g = g
    waited (x ∷ names) all c h g = h

    pub break_made : SelectorsFit objects w scope → (place : Place) (elements : List BreakElement) (names : List Expr) (when : Option Expr) (n : Notes)
        → HasRoom (equation_scope objects) (concurrent_break w scope place elements names when n).0 → OnKept (IsProcess objects) (concurrent_break w scope place elements names when n).1
    break_made selectors place elements names when n room =
        let e = break_elements w scope elements n in
        let all = sensitivity w scope names e.0 in
        let c = condition w scope when all.0 in
        let behind = both paired all.1 c.1 in
        let made = both (breaking names) e.1 behind in
        let here : HasRoom (equation_scope objects) c.0 = room_before (equation_scope objects) c.0 (closed place made c.0) (grows_closed Process place made c.0) room in
        sealed_kept Process (IsProcess objects) made
        (both_by (List Broken) (List SignalName × Option FlatExpr) Process (IsProcess objects) (breaking names) e.1 behind
        (λ bs b is_e is_b.
        let parts = paired_is (List SignalName) (Option FlatExpr) all.1 c.1 b is_b in
        let s = statement.Break bs b.1 in
        let signals = break_signals names b.0 b.1 in
        let p = single signals s in
        let Room : Notes → Type 0 = HasRoom (process_scope objects p) in
        let at_c : Room c.0 = room_in p c.0 here in
        let third : KeepsPart (Option FlatExpr) Room (MayBe objects p [] Boolean) all.0 c = process_parts_fit.conditions objects p [] w scope when all.0 (inner p).fits in
        let at_all : Room all.0 = room_before (process_scope objects p) all.0 c.0 third.grows at_c in
        let second : KeepsPart (List SignalName) Room (All (IsSignalName objects)) e.0 all = sensitivity_keeps objects p [] w scope (inner p) names e.0 in
        let at_e : Room e.0 = room_before (process_scope objects p) e.0 all.0 second.grows at_all in
        let first : KeepsPart (List Broken) Room (All (IsBreakElement objects p [])) n e = elements_keep objects p [] w scope (inner p) selectors elements n in
        let broken : All (IsBreakElement objects p []) bs = kept_is (List Broken) (All (IsBreakElement objects p [])) e.1 bs is_e (first.right at_e) in
        let on : All (IsSignalName objects) b.0 = kept_is (List SignalName) (All (IsSignalName objects)) all.1 b.0 parts.0 (second.right at_all) in
        let may : MayBe objects p [] Boolean b.1 = kept_is (Option FlatExpr) (MayBe objects p [] Boolean) c.1 b.1 parts.1 (third.right at_c) in
        single_is signals s (Statement-F.Break bs b.1) (opens_as s (Statement-F.Break bs b.1) (rolls-Break bs b.1)) tt (broken, may)
        (waited names b.0 b.1 on (some_names objects p [] w scope (inner p) b.1 may))))
