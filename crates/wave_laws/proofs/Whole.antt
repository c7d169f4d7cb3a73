-- The processes that concurrent signal assignments stand for.
use Rattle.std.proofs.Common.{◌≡◌, ◌<◌, ◌+◌, ℕ, zero, suc, arith, List, [], ◌∷◌, ◌++◌, length, length-append, Option, IsTrue}
use Rattle.std.specs.List.{All, flat_map}
use Rattle.std.proofs.lemmas.List.Elements.{All-append, All-nil}
use Rattle.ams_tree.specs.declared.concurrent.ConditionalWaveform.{ConditionalWaveform}
use Rattle.ams_tree.specs.declared.expression.Expr.{Expr}
use Rattle.ams_tree.specs.declared.expression.Name.{Name}
use Rattle.ams_tree.specs.declared.sequential.DelayMechanism.{DelayMechanism}
use Rattle.ams_tree.specs.declared.sequential.WaveformElement.{WaveformElement}
use Rattle.flat_expr.specs.declared.expr.SignalName.{SignalName}
use Rattle.flat_design.specs.declared.objects.Objects.{Objects}
use Rattle.flat_design.specs.declared.objects.Process.{Process}
use Rattle.name_scope.specs.declared.scope.Scope.{Scope}
use Rattle.name_scope.specs.declared.thing.Subtype.{Subtype}
use Rattle.elab_meaning.specs.declared.fault.Notes.{Notes}
use Rattle.unit_meaning.specs.declared.draft.Draft.{Draft}
use Rattle.unit_meaning.specs.Settings.{Setting, listed}
use Rattle.unit_meaning.specs.Bare.{once}
use Rattle.unit_meaning.specs.Sequential.{with_driver}
use Rattle.unit_meaning.specs.Waveforms.{target}
use Rattle.unit_meaning.specs.Processes.{Wave, conditional, wave, equivalent, ending, assigning_process, concurrent_assignment}
use Rattle.cycle_meaning.specs.World.{drives}
use Rattle.design_rules.specs.Types.{equation_scope, process_scope}
use Rattle.design_rules.specs.Statements.{IsSignalName}
use Rattle.design_rules.specs.Design.{IsVariable, IsProcess}
use Rattle.typed_laws.specs.Fitting.{HasRoom}
use Rattle.typed_laws.proofs.Typing.{room_before}
use Rattle.part_laws.specs.Parts.{OnKept, KeepsPart}
use Rattle.part_laws.proofs.Parts.{both_kept, AllOf}
use Rattle.scope_laws.specs.Holds.{ScopeHolds}
use Rattle.scope_laws.proofs.Scopes.{scopes_hold}
use Rattle.place_laws.proofs.Places.{none_stands, one_more_stands, assigns_first}
use Rattle.draft_laws.proofs.Notes.{grows_closed}
use Rattle.allowed_laws.proofs.Simple.{once_all}
use Rattle.allowed_laws.proofs.Targets.{IsTarget, target_kept}
use Rattle.body_laws.proofs.Leaves.{sealed_kept}
use Rattle.body_laws.proofs.Lists.{any_end}
use Rattle.made_laws.proofs.Endings.{both_by, kept_is, ending_is}
use Rattle.wave_laws.specs.Waves.{AssignmentsMakeProcesses}
use Rattle.wave_laws.proofs.Waves.{down, IsWave, one_keeps, all_keep}
use Rattle.wave_laws.proofs.Equivalent.{is_it, IsRight, equivalent_right}

abbrev quiet : Draft
quiet = record { notes = record { faults = []; dots = []; thresholds = [] }; variables = []; drivers = []; waits = [] }

abbrev signals_of : List Wave → List SignalName
signals_of all = once (flat_map (λ (x : Wave). x.reads) all)

abbrev process_for : ℕ → List Wave → Process
process_for i all = ending (with_driver i quiet) (signals_of all) (equivalent all ∷ [])

one : (A : Type 0) (R : A → Type 0) (x : A) → R x → All R (x ∷ [])
one A R x h zero d lt = h
one A R x h (suc i) d lt = absurd (omega arith)

module _ (objects : Objects) (w : Setting) (scope : Scope) (holds : ScopeHolds (equation_scope objects) [] [] scope) where
  module _ (t : ℕ × Subtype) (all : List Wave) where
    abbrev p : Process
    p = process_for t.0 all

    inner : ScopeHolds (process_scope objects p) p.variables [] scope
    inner = scopes_hold.in_process objects p [] scope holds

    driven : IsTrue (drives t.0 p)
    driven = any_end t.0 []

    module _ (at : IsTarget objects p [] t) where
      abbrev Good : Wave → Type 0
      Good = IsWave objects p w scope inner t at driven

      reads_named : (xs : List Wave) → All Good xs → All (IsSignalName objects) (flat_map (λ (x : Wave). x.reads) xs)
      reads_named [] h = All-nil (IsSignalName objects)
      reads_named (x ∷ xs) h = All-append (IsSignalName objects) x.reads (flat_map (λ (x : Wave). x.reads) xs) (h 0 x (omega arith)).reads (reads_named xs (λ i d lt. h (suc i) d (omega arith)))

      process_is : All Good all → 0 < length all → IsProcess objects p
      process_is h some =
          let s = equivalent all in
          let right : IsRight objects p w scope inner t at driven s = equivalent_right objects p w scope inner t at driven all h some in
          ending_is objects (with_driver t.0 quiet) (signals_of all) (s ∷ []) (All-nil (IsVariable objects)) (one_more_stands objects p [] [] [] s (none_stands objects p [] []) right.places)
          (once_all (IsSignalName objects) (flat_map (λ (x : Wave). x.reads) all) (reads_named all h))
          (λ j is. assigns_first j s [] (right.assigns j (is_it objects p w scope inner t at driven j is)))

  room_in : (q : Process) (n : Notes) → HasRoom (equation_scope objects) n → HasRoom (process_scope objects q) n
  room_in q n h = record { dots = h.dots; dot_limit = h.dot_limit; thresholds = h.thresholds; threshold_limit_kept = h.threshold_limit_kept }

  assignment_made : (x : Name) (delay : Option DelayMechanism) (all : List ConditionalWaveform) (last : List WaveformElement) (when : Option Expr) (n : Notes)
      → All (λ (c : ConditionalWaveform). 0 < length c.elements) all → 0 < length last
      → HasRoom (equation_scope objects) (concurrent_assignment w scope x delay all last when n).0 → OnKept (IsProcess objects) (concurrent_assignment w scope x delay all last when n).1
  assignment_made x delay all last when n some some_last room =
      let to = target scope x n in
      let first = listed (conditional w scope to.1 delay) all to.0 in
      let rest = wave w scope to.1 delay last when first.0 in
      sealed_kept Process (IsProcess objects) _
      (both_by (ℕ × Subtype) (List Wave) Process (IsProcess objects) assigning_process to.1 _
      (λ t waves is_t is_w.
      let q = process_for t.0 waves in
      let at : IsTarget objects q [] t = kept_is (ℕ × Subtype) (IsTarget objects q []) to.1 t is_t (target_kept objects q [] scope (inner t waves) x n) in
      let One : Wave → Type 0 = IsWave objects q w scope (inner t waves) t at (driven t waves) in
      let here : HasRoom (process_scope objects q) rest.0 = room_in q rest.0 (room_before (equation_scope objects) rest.0 _ (grows_closed Process x.place _ rest.0) room) in
      let a : KeepsPart (List Wave) (HasRoom (process_scope objects q)) (AllOf (HasRoom (process_scope objects q)) (down objects q w scope (inner t waves) t at (driven t waves)) Wave One (length all)) to.0 first =
      all_keep objects q w scope (inner t waves) t at (driven t waves) to.1 is_t delay all to.0 some in
      let b : KeepsPart Wave (HasRoom (process_scope objects q)) One first.0 rest = one_keeps objects q w scope (inner t waves) t at (driven t waves) to.1 is_t delay last when first.0 some_last in
      let good : All One waves × (0 < length waves) =
      kept_is (List Wave) (λ (ws : List Wave). All One ws × (0 < length ws)) _ waves is_w
      (both_kept (List Wave) Wave (List Wave) (AllOf (HasRoom (process_scope objects q)) (down objects q w scope (inner t waves) t at (driven t waves)) Wave One (length all)) One
      (λ (ws : List Wave). All One ws × (0 < length ws)) _ (λ xs y h g. (All-append One xs (y ∷ []) h.each (one Wave One y g), longer xs y)) first.1 rest.1
      (a.right (room_before (process_scope objects q) first.0 rest.0 b.grows here)) (b.right here)) in
      process_is t waves at good.0 good.1))
    where
      longer : (xs : List Wave) (y : Wave) → 0 < length (xs ++ y ∷ [])
      longer xs y =
          let l : length (xs ++ y ∷ []) ≡ length xs + 1 = length-append xs (y ∷ []) in
          omega arith

pub assignments_make_processes : AssignmentsMakeProcesses
assignments_make_processes objects w scope x delay all last when n holds some some_last room = assignment_made objects w scope holds x delay all last when n some some_last room
