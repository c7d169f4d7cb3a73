-- One waveform of a concurrent signal assignment, with its condition.
use Rattle.std.proofs.Common.{◌≡◌, ◌<◌, ℕ, suc, arith, List, [], ◌∷◌, length, Option, Some, IsTrue, sym, subst}
use Rattle.std.specs.List.{All}
use Rattle.std.proofs.lemmas.List.Elements.{All-append, All-nil}
use Rattle.ams_tree.specs.declared.concurrent.ConditionalWaveform.{ConditionalWaveform}
use Rattle.ams_tree.specs.declared.expression.Expr.{Expr}
use Rattle.ams_tree.specs.declared.sequential.DelayMechanism.{DelayMechanism}
use Rattle.ams_tree.specs.declared.sequential.WaveformElement.{WaveformElement}
use Rattle.ams_value.specs.declared.value_type.ValueType.{ValueType}
use Rattle.ams_value.specs.declared.value_type.ValueType.TheVariants.{Boolean}
use Rattle.flat_expr.specs.declared.expr.FlatExpr.{FlatExpr}
use Rattle.flat_expr.specs.declared.statement.DelayMechanism.{DelayMechanism as Mechanism}
use Rattle.flat_expr.specs.declared.statement.Statement.TheVariants as statement
use Rattle.flat_expr.specs.declared.statement.Statement.TheVariants.{rolls-SignalAssignment}
use Rattle.flat_expr.specs.declared.statement.Statement.TheOpen.{Statement-F}
use Rattle.flat_expr.specs.declared.statement.WaveElement.{WaveElement}
use Rattle.flat_design.specs.declared.objects.Objects.{Objects}
use Rattle.flat_design.specs.declared.objects.Process.{Process}
use Rattle.name_scope.specs.declared.scope.Scope.{Scope}
use Rattle.name_scope.specs.declared.thing.Subtype.{Subtype}
use Rattle.elab_meaning.specs.declared.fault.Notes.{Notes}
use Rattle.elab_meaning.specs.declared.part.Part.{Part}
use Rattle.elab_meaning.specs.declared.part.Part.TheVariants.{Kept}
use Rattle.elab_meaning.specs.Declarations.{range_part}
use Rattle.elab_meaning.specs.Parts.{both}
use Rattle.unit_meaning.specs.Settings.{Setting, condition, paired, listed}
use Rattle.unit_meaning.specs.Bare.{signals_in, signals_in_some}
use Rattle.unit_meaning.specs.Waveforms.{mechanism, waveform}
use Rattle.unit_meaning.specs.Processes.{Wave, value_signals, made_wave, wave, conditional}
use Rattle.cycle_meaning.specs.World.{drives}
use Rattle.design_rules.specs.Types.{process_scope}
use Rattle.design_rules.specs.Statements.{MayBe, IsSignalName, IsWaveElement}
use Rattle.reading_laws.specs.Growing.{Grows}
use Rattle.reading_laws.proofs.Growing.{grows_on}
use Rattle.typed_laws.specs.Fitting.{HasRoom}
use Rattle.typed_laws.proofs.Typing.{room_before}
use Rattle.part_laws.specs.Parts.{OnKept, KeepsPart}
use Rattle.part_laws.proofs.Parts.{judged_kept, both_kept, AllOf, Every, listed_keeps}
use Rattle.part_laws.proofs.Process.{process_parts_fit}
use Rattle.statement_laws.specs.Statements.{MayStand, HasLimit, AreElements}
use Rattle.statement_laws.proofs.Statements.{statement_parts_fit}
use Rattle.scope_laws.specs.Holds.{ScopeHolds}
use Rattle.allowed_laws.proofs.Simple.{stands_as, read_names, some_names}
use Rattle.allowed_laws.proofs.Targets.{IsTarget}
use Rattle.body_laws.proofs.Leaves.{IsAssignmentOf, opens_as}

module _ (objects : Objects) (p : Process) (w : Setting) (scope : Scope) (holds : ScopeHolds (process_scope objects p) p.variables [] scope) (t : ℕ × Subtype) (at : IsTarget objects p [] t) (driven : IsTrue (drives t.0 p)) where
  abbrev pub Room : Notes → Type 0
  Room = HasRoom (process_scope objects p)

  pub down : (a b : Notes) → Grows a b → Room b → Room a
  down a b g k = room_before (process_scope objects p) a b g k

  -- it assigns the target, its condition is BOOLEAN, and the signals that it reads are some of the design
  pub record IsWave (x : Wave) : Type 0 where
    pub may : MayStand objects p [] x.assigns
    pub assigns : IsAssignmentOf t.0 x.assigns
    pub when : MayBe objects p [] Boolean x.when
    pub reads : All (IsSignalName objects) x.reads

  tail : (A : Type 0) (R : A → Type 0) (x : A) (all : List A) → All R (x ∷ all) → All R all
  tail A R x all h i d lt = h (suc i) d (omega arith)

  head : (A : Type 0) (R : A → Type 0) (x : A) (all : List A) → All R (x ∷ all) → R x
  head A R x all h = h 0 x (omega arith)

  values_named : (k : ValueType) (all : List WaveElement) → All (IsWaveElement objects p [] k) all → All (IsSignalName objects) (value_signals all)
  values_named k [] h = All-nil (IsSignalName objects)
  values_named k (x ∷ all) h =
      All-append (IsSignalName objects) (signals_in x.value) (value_signals all) (read_names objects p [] w scope holds k x.value (head WaveElement (IsWaveElement objects p [] k) x all h).value)
      (values_named k all (tail WaveElement (IsWaveElement objects p [] k) x all h))

  abbrev Behind : ℕ → (Mechanism × List WaveElement) × Option FlatExpr → Type 0
  Behind size b = (HasLimit objects p [] b.0.0 × AreElements objects p [] at.signal.kind size b.0.1) × MayBe objects p [] Boolean b.1

  wave_made : (size : ℕ) → 0 < size → (b : (Mechanism × List WaveElement) × Option FlatExpr) → Behind size b → OnKept IsWave (made_wave t b)
  wave_made size some b h =
      let c = range_part t.1.constraint in
      let count : length b.0.1 ≡ size = h.0.1.count in
      record {
        may =
            stands_as objects p [] (statement.SignalAssignment t.0 c b.0.0 b.0.1) (Statement-F.SignalAssignment t.0 c b.0.0 b.0.1) (rolls-SignalAssignment t.0 c b.0.0 b.0.1)
            (record { signal = at.signal; signal_is = at.signal_is; driven = driven; subtype = at.range; limit = h.0.0; some = omega arith; elements = h.0.1.each });
        assigns = (c, b.0.0, b.0.1, opens_as (statement.SignalAssignment t.0 c b.0.0 b.0.1) (Statement-F.SignalAssignment t.0 c b.0.0 b.0.1) (rolls-SignalAssignment t.0 c b.0.0 b.0.1));
        when = h.1;
        reads =
            All-append (IsSignalName objects) (value_signals b.0.1) (signals_in_some b.1) (values_named at.signal.kind b.0.1 h.0.1.each) (some_names objects p [] w scope holds b.1 h.1);
      }

  wave_keeps : (delay : Option DelayMechanism) (xs : List WaveformElement) (when : Option Expr) (n : Notes) → 0 < length xs → KeepsPart Wave Room IsWave n (wave w scope (Kept t) delay xs when n)
  wave_keeps delay xs when n some =
      let m = mechanism w scope delay n in
      let elements = waveform w scope (Kept t) xs m.0 in
      let c = condition w scope when elements.0 in
      let first : KeepsPart Mechanism Room (HasLimit objects p []) n m = statement_parts_fit.mechanisms objects p [] w scope delay n holds.fits in
      let second : KeepsPart (List WaveElement) Room (AreElements objects p [] at.signal.kind (length xs)) m.0 elements =
      statement_parts_fit.waveforms objects p [] w scope t.0 t.1 at.signal.kind xs m.0 at.kind_is holds.fits in
      let third : KeepsPart (Option FlatExpr) Room (MayBe objects p [] Boolean) elements.0 c = process_parts_fit.conditions objects p [] w scope when elements.0 holds.fits in
      record {
        grows = grows_on n m.0 c.0 first.grows (grows_on m.0 elements.0 c.0 second.grows third.grows);
        right = λ room.
            let here : Room elements.0 = down elements.0 c.0 third.grows room in
            judged_kept ((Mechanism × List WaveElement) × Option FlatExpr) Wave (Behind (length xs)) IsWave (made_wave t) (wave_made (length xs) some) (both paired (both paired m.1 elements.1) c.1)
            (both_kept (Mechanism × List WaveElement) (Option FlatExpr) ((Mechanism × List WaveElement) × Option FlatExpr)
            (λ (b : Mechanism × List WaveElement). HasLimit objects p [] b.0 × AreElements objects p [] at.signal.kind (length xs) b.1) (MayBe objects p [] Boolean) (Behind (length xs)) paired (λ a b h g. (h, g))
            (both paired m.1 elements.1) c.1
            (both_kept Mechanism (List WaveElement) (Mechanism × List WaveElement) (HasLimit objects p []) (AreElements objects p [] at.signal.kind (length xs))
            (λ (b : Mechanism × List WaveElement). HasLimit objects p [] b.0 × AreElements objects p [] at.signal.kind (length xs) b.1) paired (λ a b h g. (h, g)) m.1 elements.1
            (first.right (down m.0 elements.0 second.grows here)) (second.right here))
            (third.right room));
      }

  module _ (to : Part (ℕ × Subtype)) (is : to ≡ Kept t) where
    pub one_keeps : (delay : Option DelayMechanism) (xs : List WaveformElement) (when : Option Expr) (n : Notes) → 0 < length xs → KeepsPart Wave Room IsWave n (wave w scope to delay xs when n)
    one_keeps delay xs when n some = subst (λ (z : Part (ℕ × Subtype)). KeepsPart Wave Room IsWave n (wave w scope z delay xs when n)) (sym is) (wave_keeps delay xs when n some)

    every : (all : List ConditionalWaveform) → All (λ (c : ConditionalWaveform). 0 < length c.elements) all → Every Room down ConditionalWaveform (λ (c : ConditionalWaveform). 0 < length c.elements) all
    every [] h = tt
    every (c ∷ all) h = (head ConditionalWaveform (λ (c : ConditionalWaveform). 0 < length c.elements) c all h, every all (tail ConditionalWaveform (λ (c : ConditionalWaveform). 0 < length c.elements) c all h))

    pub all_keep : (delay : Option DelayMechanism) (all : List ConditionalWaveform) (n : Notes) → All (λ (c : ConditionalWaveform). 0 < length c.elements) all
        → KeepsPart (List Wave) Room (AllOf Room down Wave IsWave (length all)) n (listed (conditional w scope to delay) all n)
    all_keep delay all n some =
        listed_keeps Room down Wave ConditionalWaveform (λ (c : ConditionalWaveform). 0 < length c.elements) IsWave (conditional w scope to delay)
        (λ c m h. one_keeps delay c.elements (Some c.condition) m h) all n (every all some)
