-- Sequential statements, part by part.
use Rattle.std.proofs.Common.{◌≡◌, ℕ, Bool, true, false, List, [], ◌∷◌, length, Option, Some, refl, ap, sym, ◌∙◌, subst}
use Rattle.std.specs.Prelude.{◌&&◌}
use Rattle.ams_tree.specs.declared.expression.Expr.{Expr}
use Rattle.ams_tree.specs.declared.sequential.Assertion.{Assertion}
use Rattle.ams_tree.specs.declared.sequential.DelayMechanism.{DelayMechanism}
use Rattle.ams_tree.specs.declared.sequential.DelayMechanism.TheVariants as written
use Rattle.ams_tree.specs.declared.sequential.WaveformElement.{WaveformElement}
use Rattle.ams_value.specs.declared.value_type.ValueType.{ValueType}
use Rattle.ams_value.specs.declared.value_type.ValueType.TheVariants.{Boolean, Time}
use Rattle.flat_expr.specs.declared.expr.FlatExpr.{FlatExpr}
use Rattle.flat_expr.specs.declared.statement.DelayMechanism.{DelayMechanism as Mechanism}
use Rattle.flat_expr.specs.declared.statement.Severity.{Severity}
use Rattle.flat_expr.specs.declared.statement.Statement.{Statement, out-Statement}
use Rattle.flat_expr.specs.declared.statement.Statement.TheVariants as statement
use Rattle.flat_expr.specs.declared.statement.Statement.TheVariants.{rolls-Exit, rolls-Next}
use Rattle.flat_expr.specs.declared.statement.Statement.TheOpen.{Statement-F}
use Rattle.flat_expr.specs.declared.statement.Statement.TheViews.{out-roll-Statement}
use Rattle.flat_expr.specs.declared.statement.WaveElement.{WaveElement}
use Rattle.flat_design.specs.declared.objects.Objects.{Objects}
use Rattle.flat_design.specs.declared.objects.Process.{Process}
use Rattle.name_scope.specs.declared.scope.Scope.{Scope}
use Rattle.name_scope.specs.declared.thing.Kind.{Kind}
use Rattle.name_scope.specs.declared.thing.Kind.TheVariants.{Of, Vector}
use Rattle.name_scope.specs.declared.thing.Subtype.{Subtype}
use Rattle.elab_meaning.specs.declared.fault.Notes.{Notes}
use Rattle.elab_meaning.specs.declared.part.Part.{Part}
use Rattle.elab_meaning.specs.declared.part.Part.TheVariants.{Kept, Wrong, Hidden}
use Rattle.elab_meaning.specs.declared.typed.Typed.{Typed}
use Rattle.elab_meaning.specs.Kinds.{same_kind}
use Rattle.elab_meaning.specs.Parts.{judged}
use Rattle.elab_meaning.specs.Subtypes.{suits, holds_known}
use Rattle.unit_meaning.specs.declared.draft.Spot.{Spot}
use Rattle.unit_meaning.specs.Settings.{Setting, running, known_of, value_of, typed, must_be, may_be, condition, paired}
use Rattle.unit_meaning.specs.Sequential.{in_loop, leaving, severity_or, assertion_parts}
use Rattle.flat_expr.specs.declared.statement.Severity.TheVariants as severity
use Rattle.unit_meaning.specs.Waveforms.{rejecting, mechanism, suited, wave_element, element, waveform}
use Rattle.design_meaning.specs.Typed.{HasType}
use Rattle.design_rules.specs.Types.{process_scope, IsVisible, IsExpression}
use Rattle.design_rules.specs.Statements.{MayBe, IsWaveElement, IsAllowed}
use Rattle.reading_laws.specs.Growing.{Grows}
use Rattle.reading_laws.proofs.Growing.{grows_same, grows_on}
use Rattle.typed_laws.specs.Fitting.{ScopeFits, HasRoom, HasKind, IsRead}
use Rattle.typed_laws.proofs.Typing.{room_before}
use Rattle.part_laws.specs.Parts.{OnKept, KeepsPart}
use Rattle.part_laws.proofs.Parts.{same_type_is, judged_kept, both_kept, where_kept, AllOf, Every, listed_keeps, typed_keeps}
use Rattle.part_laws.proofs.Process.{kept_as, process_parts_fit}
use Rattle.statement_laws.specs.Statements.{MayStand, HasCondition, HasLimit, AreElements, StatementPartsFit}

and_left : (a b : Bool) → (a && b) ≡ true → a ≡ true
and_left true b h = refl
and_left false b h = absurd (cc)

anything : (A : Type 0) (p : Part A) → OnKept (λ (a : A). Unit {0}) p
anything A (Kept a) = tt
anything A Wrong = tt
anything A Hidden = tt

module _ (objects : Objects) (p : Process) (ps : List ℕ) (w : Setting) (scope : Scope) (fits : ScopeFits (process_scope objects p) (IsVisible p.variables ps) scope) where
  abbrev Sees : ℕ → Type 0
  Sees = IsVisible p.variables ps

  abbrev Room : Notes → Type 0
  Room = HasRoom (process_scope objects p)

  down : (a b : Notes) → Grows a b → Room b → Room a
  down a b g k = room_before (process_scope objects p) a b g k

  -- ---- exit and next

  exit_stands : (x : Option FlatExpr) → MayBe objects p ps Boolean x → MayStand objects p ps (statement.Exit x)
  exit_stands x h = subst (IsAllowed objects p ps) (sym (ap out-Statement (sym (rolls-Exit x)) ∙ out-roll-Statement (Statement-F.Exit x))) h

  next_stands : (x : Option FlatExpr) → MayBe objects p ps Boolean x → MayStand objects p ps (statement.Next x)
  next_stands x h = subst (IsAllowed objects p ps) (sym (ap out-Statement (sym (rolls-Next x)) ∙ out-roll-Statement (Statement-F.Next x))) h

  leaving_keeps : (make : Option FlatExpr → Statement) → ((x : Option FlatExpr) → MayBe objects p ps Boolean x → MayStand objects p ps (make x)) → (spot : Spot) (x : Option Expr) (n : Notes)
      → KeepsPart Statement Room (MayStand objects p ps) n (leaving w scope spot make x n)
  leaving_keeps make stands spot x n =
      let c : KeepsPart (Option FlatExpr) Room (MayBe objects p ps Boolean) n (condition w scope x n) = process_parts_fit.conditions objects p ps w scope x n fits in
      record {
        grows = c.grows;
        right = λ k.
            judged_kept (Option FlatExpr) Statement (MayBe objects p ps Boolean) (MayStand objects p ps) (in_loop spot make)
            (λ o h. where_kept Statement (MayStand objects p ps) spot.is_in_loop (make o) (λ is. stands o h)) (condition w scope x n).1 (c.right k);
      }

  -- ---- assertions

  assertion_keeps : (a : Assertion) (n : Notes) → KeepsPart (FlatExpr × Severity) Room (HasCondition objects p ps) n (assertion_parts w scope a n)
  assertion_keeps a n =
      let x : KeepsPart FlatExpr Room (IsExpression objects p ps Boolean) n (must_be w scope running (Of Boolean) a.condition n) = process_parts_fit.must objects p ps w scope running Boolean a.condition n fits in
      record {
        grows = x.grows;
        right = λ k.
            both_kept FlatExpr Severity (FlatExpr × Severity) (IsExpression objects p ps Boolean) (λ (s : Severity). Unit {0}) (HasCondition objects p ps) paired (λ e s h g. h)
            (must_be w scope running (Of Boolean) a.condition n).1 (severity_or w.texts severity.Error a.severity) (x.right k) (anything Severity (severity_or w.texts severity.Error a.severity));
      }

  -- ---- waveforms

  mechanism_keeps : (delay : Option DelayMechanism) (n : Notes) → KeepsPart Mechanism Room (HasLimit objects p ps) n (mechanism w scope delay n)
  mechanism_keeps (Some (written.Transport place)) n = record { grows = grows_same n; right = λ k. tt }
  mechanism_keeps (Some (written.Reject place x)) n =
      let limit : KeepsPart FlatExpr Room (IsExpression objects p ps Time) n (must_be w scope running (Of Time) x n) = process_parts_fit.must objects p ps w scope running Time x n fits in
      record {
        grows = limit.grows;
        right = λ k. judged_kept FlatExpr Mechanism (IsExpression objects p ps Time) (HasLimit objects p ps) rejecting (λ e h. h) (must_be w scope running (Of Time) x n).1 (limit.right k);
      }
  mechanism_keeps _ n = record { grows = grows_same n; right = λ k. tt }

  kind_from : (e : FlatExpr) (j : Kind) (k : ValueType) → HasKind (process_scope objects p) e j → same_kind (Of k) j ≡ true → HasType (process_scope objects p) e k
  kind_from e (Of u) k h is = subst (λ (z : ValueType). HasType (process_scope objects p) e z) (sym (same_type_is k u is)) h
  kind_from e Vector k h is = absurd h

  suited_kept : (i : ℕ) (s : Subtype) (k : ValueType) (x : Typed) → s.kind ≡ Of k → IsRead (process_scope objects p) Sees x → OnKept (IsExpression objects p ps k) (suited (Kept (i, s)) x)
  suited_kept i s k x of h =
      where_kept FlatExpr (IsExpression objects p ps k) (suits s (value_of x)) x.expr
      (λ is.
      record {
        typed =
            kind_from x.expr x.kind k h.typed
            (subst (λ (z : Kind). same_kind z x.kind ≡ true) of (and_left (same_kind s.kind x.kind) (holds_known s.constraint (known_of x.value)) is));
        visible = h.visible;
      })

  element_keeps : (i : ℕ) (s : Subtype) (k : ValueType) → s.kind ≡ Of k → (x : WaveformElement) (n : Notes) → KeepsPart WaveElement Room (IsWaveElement objects p ps k) n (element w scope (Kept (i, s)) x n)
  element_keeps i s k of x n =
      let value = typed w scope running x.value n in
      let after = may_be w scope running (Of Time) x.after value.0 in
      let first : KeepsPart Typed Room (IsRead (process_scope objects p) Sees) n value = typed_keeps (process_scope objects p) Sees w scope fits running x.value n in
      let second : KeepsPart (Option FlatExpr) Room (MayBe objects p ps Time) value.0 after = process_parts_fit.may objects p ps w scope running Time x.after value.0 fits in
      record {
        grows = grows_on n value.0 after.0 first.grows second.grows;
        right = λ room.
            both_kept FlatExpr (Option FlatExpr) WaveElement (IsExpression objects p ps k) (MayBe objects p ps Time) (IsWaveElement objects p ps k) wave_element
            (λ e d h g. record { value = h; delay = g })
            (judged (suited (Kept (i, s))) value.1) after.1
            (judged_kept Typed FlatExpr (IsRead (process_scope objects p) Sees) (IsExpression objects p ps k) (suited (Kept (i, s))) (λ t h. suited_kept i s k t of h) value.1 (first.right (down value.0 after.0 second.grows room)))
            (second.right room);
      }

  nothing_asked : (all : List WaveformElement) → Every Room down WaveformElement (λ (x : WaveformElement). Unit {0}) all
  nothing_asked [] = tt
  nothing_asked (x ∷ more) = (tt, nothing_asked more)

  waveform_keeps : (i : ℕ) (s : Subtype) (k : ValueType) (all : List WaveformElement) (n : Notes) → s.kind ≡ Of k
      → KeepsPart (List WaveElement) Room (AreElements objects p ps k (length all)) n (waveform w scope (Kept (i, s)) all n)
  waveform_keeps i s k all n of =
      let read : KeepsPart (List WaveElement) Room (AllOf Room down WaveElement (IsWaveElement objects p ps k) (length all)) n (waveform w scope (Kept (i, s)) all n) =
      listed_keeps Room down WaveElement WaveformElement (λ (x : WaveformElement). Unit {0}) (IsWaveElement objects p ps k) (element w scope (Kept (i, s)))
      (λ x m asked. element_keeps i s k of x m) all n (nothing_asked all) in
      record {
        grows = read.grows;
        right = λ room.
            kept_as (List WaveElement) (AllOf Room down WaveElement (IsWaveElement objects p ps k) (length all)) (AreElements objects p ps k (length all))
            (λ xs h. record { each = h.each; count = h.count }) (waveform w scope (Kept (i, s)) all n).1 (read.right room);
      }

pub statement_parts_fit : StatementPartsFit
statement_parts_fit = record {
  exits = λ objects p ps w scope spot x n fits. leaving_keeps objects p ps w scope fits statement.Exit (exit_stands objects p ps w scope fits) spot x n;
  nexts = λ objects p ps w scope spot x n fits. leaving_keeps objects p ps w scope fits statement.Next (next_stands objects p ps w scope fits) spot x n;
  assertions = λ objects p ps w scope a n fits. assertion_keeps objects p ps w scope fits a n;
  mechanisms = λ objects p ps w scope delay n fits. mechanism_keeps objects p ps w scope fits delay n;
  waveforms = λ objects p ps w scope i s k all n of fits. waveform_keeps objects p ps w scope fits i s k all n of;
}
