-- The frame that equations read.
use Rattle.std.proofs.Common.{◌≡◌, ◌≤◌, ◌<◌, refl, ap, ◌∙◌, subst, ℕ, zero, suc, ◌+◌, Bool, true, false, ◌&&◌, List, [], ◌∷◌, map, length, Option, Some, None, arith}
use Rattle.std.specs.Prelude.{IsTrue, nat_eq, filter}
use Rattle.std.specs.List.{All, slice_get, slice_index_or, range_with_len}
use Rattle.std.proofs.lemmas.Bool.Decides.{nat_tests}
use Rattle.std.proofs.lemmas.List.Elements.{All-nil, All-cons, All-head, All-tail, All-map, All-append, All-filter, All-get_or}
use Rattle.ams_value.specs.declared.val.Val.{Val}
use Rattle.ams_value.specs.declared.val.Val.TheVariants as val
use Rattle.ams_value.specs.declared.value_type.ValueType.{ValueType}
use Rattle.ams_value.specs.declared.value_type.ValueType.TheVariants as kind
use Rattle.ams_value.specs.Types.{type_of}
use Rattle.flat_expr.specs.declared.expr.SignalName.{SignalName}
use Rattle.flat_expr.specs.declared.expr.SignalName.TheVariants as name
use Rattle.flat_design.specs.declared.objects.Signal.{Signal}
use Rattle.flat_design.specs.declared.objects.Objects.{Objects}
use Rattle.flat_design.specs.Reads.{is_read, frame_of}
use Rattle.step_model.specs.System.{Digital}
use Rattle.design_meaning.specs.Typed.{same_type, IsOfType}
use Rattle.value_types.proofs.Types.{read_at}
use Rattle.cycle_meaning.specs.Cycles.{value_in, first_digital}
use Rattle.design_rules.specs.Types.{sizes_of}
use Rattle.system_model.specs.System.{is_signal_value, is_value_of, are_values_of}
use Rattle.run_laws.specs.Values.{ValuesFit, FrameFits, FirstFrameFits}
use Rattle.run_types.proofs.Beginning.{InRange, first_values_fit}

itself : (n : ℕ) → nat_eq n n ≡ true
itself n = let e : n ≡ n = refl in grind (arith, nat_tests)

same_itself : (k : ValueType) → same_type k k ≡ true
same_itself kind.Boolean = refl
same_itself kind.Bit = refl
same_itself kind.Integer = refl
same_itself kind.Real = refl
same_itself kind.Time = refl
same_itself (kind.Enumeration n) = itself n
same_itself (kind.BitVector n) = itself n

both : (a b : Bool) → a ≡ true → b ≡ true → (a && b) ≡ true
both true b x y = y
both false b x y = absurd cc

signal_there : (signals : List Signal) (i : ℕ) → i < length signals → (s : Signal) × (slice_get signals i ≡ Some s)
signal_there [] i h = absurd (omega arith)
signal_there (s ∷ signals) zero h = (s, refl)
signal_there (s ∷ signals) (suc i) h = signal_there signals i (omega arith)

kind_there : (signals : List Signal) (i : ℕ) (s : Signal) → slice_get signals i ≡ Some s → slice_get (map (λ (x : Signal). x.kind) signals) i ≡ Some s.kind
kind_there [] i s h = absurd cc
kind_there (x ∷ signals) zero s h = let same : x ≡ s = cc in ap (λ (z : Signal). Some z.kind) same
kind_there (x ∷ signals) (suc i) s h = kind_there signals i s h

-- a value of the type of its signal
value_is : (objects : Objects) (o : Option Signal) (s : Signal) (v : Val) → o ≡ Some s → IsOfType (sizes_of objects) s.kind v → IsTrue (is_signal_value objects o v)
value_is objects None s v is typed = absurd cc
value_is objects (Some z) s v is typed =
    let same : s ≡ z = cc in
    subst (λ (x : Signal). IsTrue (is_signal_value objects (Some x) v)) same
    (both (same_type (type_of v) s.kind) _ (ap (λ k. same_type k s.kind) typed.kind_is ∙ same_itself s.kind) typed.range)

signal_value : (objects : Objects) (d : Digital) (i : ℕ) → ValuesFit objects d.signals d.queues → i < length objects.signals → IsTrue (is_value_of objects (name.Signal i) (value_in d (name.Signal i)))
signal_value objects d i fit h =
    let s = signal_there objects.signals i h in
    let read = read_at type_of d.signals i (val.Bool false) s.0.kind (ap (λ ks. slice_get ks i) fit.kinds ∙ kind_there objects.signals i s.0 s.1) in
    value_is objects (slice_get objects.signals i) s.0 (slice_index_or d.signals i (val.Bool false)) s.1
    (record { kind_is = read.1; range = All-get_or (InRange objects) d.signals i (val.Bool false) read.0 fit.ranges })

all_between : (P : ℕ → Type 0) (a n : ℕ) → ((i : ℕ) → a ≤ i → i < a + n → P i) → All P (range_with_len a n)
all_between P a zero h = All-nil P
all_between P a (suc n) h = All-cons P a (range_with_len (a + 1) n) (h a (omega arith) (omega arith)) (all_between P (a + 1) n (λ i low high. h i (omega arith) (omega arith)))

abbrev HasValue : Objects → Digital → SignalName → Type 0
HasValue objects d s = IsTrue (is_value_of objects s (value_in d s))

names_have : (objects : Objects) (d : Digital) → ValuesFit objects d.signals d.queues → All (HasValue objects d) (frame_of objects)
names_have objects d fit =
    All-append (HasValue objects d) (filter (is_read objects) (map name.Signal (range_with_len 0 (length objects.signals)))) (filter (is_read objects) (map name.Threshold (range_with_len 0 (length objects.thresholds))))
    (All-filter (is_read objects) (HasValue objects d) (map name.Signal (range_with_len 0 (length objects.signals)))
    (All-map (HasValue objects d) name.Signal (range_with_len 0 (length objects.signals))
    (all_between (λ i. HasValue objects d (name.Signal i)) 0 (length objects.signals) (λ i low high. signal_value objects d i fit (omega arith)))))
    (All-filter (is_read objects) (HasValue objects d) (map name.Threshold (range_with_len 0 (length objects.thresholds)))
    (All-map (HasValue objects d) name.Threshold (range_with_len 0 (length objects.thresholds))
    (all_between (λ i. HasValue objects d (name.Threshold i)) 0 (length objects.thresholds) (λ i low high. refl))))

all_values : (objects : Objects) (d : Digital) (names : List SignalName) → All (HasValue objects d) names → are_values_of objects names (map (value_in d) names) ≡ true
all_values objects d [] all = refl
all_values objects d (s ∷ names) all =
    both (is_value_of objects s (value_in d s)) (are_values_of objects names (map (value_in d) names)) (All-head (HasValue objects d) s names all) (all_values objects d names (All-tail (HasValue objects d) s names all))

pub frame_fits : FrameFits
frame_fits objects d design fit = all_values objects d (frame_of objects) (names_have objects d fit)

pub first_frame_fits : FirstFrameFits
first_frame_fits objects design = frame_fits objects (first_digital objects) design (first_values_fit objects design)
