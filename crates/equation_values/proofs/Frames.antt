-- The equations of a well-formed design can be evaluated under each frame of it.
use Rattle.std.proofs.Common.{◌≡◌, ◌<◌, ◌≤◌, ◌+◌, ℕ, zero, suc, Bool, true, false, ◌&&◌, ℤ, List, [], ◌∷◌, ◌++◌, length, map, get_or, slice_get, Option, Some, None, IsTrue, inl, inr, refl, sym, ap, subst, ◌∙◌, arith, cond}
use Rattle.std.specs.Prelude.{nat_eq, nat_lt, slice_index_or, filter, unwrap_or, position, if◌then◌else◌, ◌||◌}
use Rattle.std.specs.List.{All, range_with_len, list_any, position_or_len}
use Rattle.std.proofs.lemmas.Bool.{and_parts, cases_eq}
use Rattle.std.proofs.lemmas.Bool.Decides.{nat_tests}
use Rattle.std.proofs.lemmas.List.Elements.{All-cons, All-nil, All-head}
use Rattle.std.proofs.lemmas.List.Folds.{list_any-append}
use Rattle.std.proofs.lemmas.List.FromFn.{get_or-map-range_with_len}
use Rattle.std.proofs.lemmas.List.Recursion.{is_position_or_len}
use Rattle.std.proofs.lemmas.Option.{slice_get-map, slice_get_within, slice_get-get_or, get_or_from_slice_get}
use Rattle.std.specs.Option.{option_map}
use Rattle.fix_core.specs.Units.{most_ticks}
use Rattle.ams_value.specs.declared.val.Val.{Val}
use Rattle.ams_value.specs.declared.val.Val.TheVariants as val
use Rattle.ams_value.specs.declared.value_type.ValueType.{ValueType}
use Rattle.ams_value.specs.declared.value_type.ValueType.TheVariants.{Boolean, Real, Enumeration}
use Rattle.ams_value.specs.Types.{type_of, is_in_range}
use Rattle.flat_expr.specs.declared.expr.SignalName.{SignalName}
use Rattle.flat_expr.specs.declared.expr.SignalName.TheVariants as name
use Rattle.flat_expr.specs.declared.expr.FlatExpr.{FlatExpr}
use Rattle.flat_expr.specs.Expr.{same_signal, reads_in}
use Rattle.flat_design.specs.declared.objects.Signal.{Signal}
use Rattle.flat_design.specs.declared.objects.Enumeration.{Enumeration as Enumerated}
use Rattle.flat_design.specs.declared.objects.Pair.{Pair}
use Rattle.flat_design.specs.declared.objects.IfArm.{IfArm}
use Rattle.flat_design.specs.declared.objects.CaseArm.{CaseArm}
use Rattle.flat_design.specs.declared.objects.Selection.{Selection}
use Rattle.flat_design.specs.declared.objects.Selection.TheVariants as selection
use Rattle.flat_design.specs.declared.objects.Equation.{Equation}
use Rattle.flat_design.specs.declared.objects.Equation.TheVariants as equation
use Rattle.flat_design.specs.declared.objects.Objects.{Objects}
use Rattle.flat_design.specs.Lists.{number_in, enumeration_sizes}
use Rattle.flat_design.specs.Reads.{frame_of, is_read, pair_reads, if_arm_reads, case_arm_reads, selection_reads, equation_reads}
use Rattle.step_data.specs.declared.outcome.ChooseKind.{ChooseKind}
use Rattle.step_data.specs.declared.outcome.ChooseKind.TheVariants.{Quiet, Timed}
use Rattle.design_meaning.specs.Readings.{Seen, Readings, still, seen_of}
use Rattle.design_meaning.specs.Reading.{readings_of, framed, domain_of}
use Rattle.design_meaning.specs.Typed.{Scope, HasType, IsOfType, same_type, signal_type, if_true}
use Rattle.value_types.specs.Typing.{ReadsFor}
use Rattle.value_types.proofs.Types.{same_type_is, if_true_is}
use Rattle.expr_eval.specs.Condition.{CanEvaluate}
use Rattle.design_rules.specs.Types.{sizes_of, equation_scope}
use Rattle.design_rules.specs.Equations.{IsPair, IsBody, IsIfArm, IsCase, IsSelection, IsEquation}
use Rattle.design_rules.specs.Design.{IsDesign, domain_type}
use Rattle.design_rules.proofs.Counts.{All-tail}
use Rattle.system_model.specs.System.{is_of_type, is_signal_value, is_value_of, are_values_of}
use Rattle.equation_values.specs.Reading.{place_in}
use Rattle.equation_values.specs.Evaluable.{CanEvaluatePair, CanEvaluateIfArm, CanEvaluateCaseArm, CanEvaluateIf, CanEvaluateCase, CanEvaluateSelection, CanEvaluateEquation, IsFrame, EquationsCanBeEvaluated}

-- ---- the place of a name

same_number : (m n : ℕ) → nat_eq m n ≡ true → m ≡ n
same_number m n h = grind (arith, nat_tests)

equal_number : (m : ℕ) → nat_eq m m ≡ true
equal_number m = grind (arith, nat_tests)

same_name : (a b : SignalName) → same_signal a b ≡ true → a ≡ b
same_name (name.Signal i) (name.Signal j) h = ap name.Signal (same_number i j h)
same_name (name.Threshold i) (name.Threshold j) h = ap name.Threshold (same_number i j h)
same_name name.Domain name.Domain h = refl
same_name _ _ h = absurd (cc)

-- the first place at which a test passes, by recursion
abbrev pub first_in : {X : Type 0} → (X → Bool) → List X → ℕ
first_in p [] = 0
first_in p (x ∷ xs) = cond (p x) 0 (suc (first_in p xs))

first_in-le : {X : Type 0} (p : X → Bool) (xs : List X) → first_in p xs ≤ length xs
first_in-le p [] = omega arith
first_in-le p (x ∷ xs) = at (p x) (first_in-le p xs)
  where
    at : (b : Bool) → first_in p xs ≤ length xs → cond b 0 (suc (first_in p xs)) ≤ length (x ∷ xs)
    at true h = omega arith
    at false h = omega (arith, h)

found_or_end : (k n : ℕ) → k ≤ n → unwrap_or (cond (nat_lt k n) (Some k) None) n ≡ k
found_or_end k n h = grind (arith, nat_tests)

one_more : (k : ℕ) → suc k ≡ 1 + k
one_more k = omega arith

-- it is the number that the definition gives
pub number_is_first : {X : Type 0} (p : X → Bool) (xs : List X) → number_in p xs ≡ first_in p xs
number_is_first p xs =
    let same = is_position_or_len (first_in p) p refl (λ x more. ap (cond (p x) 0) (one_more (first_in p more))) xs in
    rw (← same) (found_or_end (first_in p xs) (length xs) (first_in-le p xs))

abbrev pub named : SignalName → SignalName → Bool
named s other = same_signal other s

-- the value that a frame has at the place of a name is of the type of that name
placed : (objects : Objects) (s : SignalName) (d : Val) (names : List SignalName) (frame : List Val) → are_values_of objects names frame ≡ true → list_any (named s) names ≡ true
    → is_value_of objects s (get_or frame (first_in (named s) names) d) ≡ true
placed objects s d [] frame fits any = absurd (cc)
placed objects s d (n ∷ names) [] fits any = absurd (cc)
placed objects s d (n ∷ names) (v ∷ frame) fits any =
    let both = and_parts (is_value_of objects n v) (are_values_of objects names frame) fits in
    at (named s n) refl any (placed objects s d names frame both.1) both.0
  where
    at : (b : Bool) → named s n ≡ b → (b || list_any (named s) names) ≡ true
        → (list_any (named s) names ≡ true → is_value_of objects s (get_or frame (first_in (named s) names) d) ≡ true) → is_value_of objects n v ≡ true
        → is_value_of objects s (get_or (v ∷ frame) (cond b 0 (suc (first_in (named s) names))) d) ≡ true
    at true e h more here = subst (λ (m : SignalName). is_value_of objects m v ≡ true) (same_name n s e) here
    at false e h more here = more h

-- ---- names in the frame

or_left : (a b : Bool) → a ≡ true → (a || b) ≡ true
or_left true b k = refl
or_left false b k = absurd (cc)

or_right : (a b : Bool) → b ≡ true → (a || b) ≡ true
or_right true b k = refl
or_right false b k = k

-- what is found behind an element is found where that is kept or not
found_behind : (p : SignalName → Bool) (b : Bool) (x : SignalName) (xs : List SignalName) → list_any p xs ≡ true → list_any p (cond b (x ∷ xs) xs) ≡ true
found_behind p true x xs k = or_right (p x) (list_any p xs) k
found_behind p false x xs k = k

-- a name of a range of numbers that passes a test is kept by it
kept : (q : SignalName → Bool) (f : ℕ → SignalName) (i start n : ℕ) → q (f i) ≡ true → named (f i) (f i) ≡ true → start ≤ i → i < start + n
    → list_any (named (f i)) (filter q (map f (range_with_len start n))) ≡ true
kept q f i start zero h same low high = absurd (omega arith)
kept q f i start (suc n) h same low high =
    elim (cases_eq start i) [
      | inl here ↦ rw (here, h, same) refl
      | inr other ↦ found_behind (named (f i)) (q (f start)) (f start) (filter q (map f (range_with_len (start + 1) n))) (kept q f i (start + 1) n h same (omega arith) (omega arith))
    ]

-- the signals that equations read, and the thresholds
abbrev signals_read : Objects → List SignalName
signals_read objects = filter (is_read objects) (map name.Signal (range_with_len 0 (length objects.signals)))

abbrev thresholds_read : Objects → List SignalName
thresholds_read objects = filter (is_read objects) (map name.Threshold (range_with_len 0 (length objects.thresholds)))

signal_kept : (objects : Objects) (i : ℕ) → is_read objects (name.Signal i) ≡ true → i < length objects.signals → list_any (named (name.Signal i)) (frame_of objects) ≡ true
signal_kept objects i h lt =
    list_any-append (named (name.Signal i)) (signals_read objects) (thresholds_read objects)
    ∙ or_left (list_any (named (name.Signal i)) (signals_read objects)) (list_any (named (name.Signal i)) (thresholds_read objects))
    (kept (is_read objects) name.Signal i 0 (length objects.signals) h (equal_number i) (omega arith) (omega arith))

threshold_kept : (objects : Objects) (k : ℕ) → is_read objects (name.Threshold k) ≡ true → k < length objects.thresholds → list_any (named (name.Threshold k)) (frame_of objects) ≡ true
threshold_kept objects k h lt =
    list_any-append (named (name.Threshold k)) (signals_read objects) (thresholds_read objects)
    ∙ or_right (list_any (named (name.Threshold k)) (signals_read objects)) (list_any (named (name.Threshold k)) (thresholds_read objects))
    (kept (is_read objects) name.Threshold k 0 (length objects.thresholds) h (equal_number k) (omega arith) (omega arith))

-- a name that equations read has a value of its type in the frame
in_frame : (objects : Objects) (frame : List Val) (s : SignalName) (d : Val) → IsFrame objects frame → list_any (named s) (frame_of objects) ≡ true
    → is_value_of objects s (get_or frame (place_in (frame_of objects) s) d) ≡ true
in_frame objects frame s d fits any =
    rw (number_is_first (named s) (frame_of objects)) (placed objects s d (frame_of objects) frame fits any)

-- ---- its type

of_type : (objects : Objects) (k : ValueType) (v : Val) → is_of_type objects k v ≡ true → IsOfType (sizes_of objects) k v
of_type objects k v h =
    let both = and_parts (same_type (type_of v) k) (is_in_range (enumeration_sizes objects) v) h in
    record { kind_is = same_type_is (type_of v) k both.0; range = both.1 }

signal_within : (xs : List Signal) (i : ℕ) (k : ValueType) → option_map (λ (y : Signal). y.kind) (slice_get xs i) ≡ Some k → i < length xs
signal_within [] i k h = absurd (cc)
signal_within (x ∷ xs) zero k h = omega arith
signal_within (x ∷ xs) (suc i) k h = omega (arith, signal_within xs i k h)

signal_of_type : (objects : Objects) (o : Option Signal) (k : ValueType) (v : Val) → is_signal_value objects o v ≡ true → option_map (λ (x : Signal). x.kind) o ≡ Some k → IsOfType (sizes_of objects) k v
signal_of_type objects (Some s) k v h e = let same : s.kind ≡ k = cc in subst (λ (t : ValueType). IsOfType (sizes_of objects) t v) same (of_type objects s.kind v h)
signal_of_type objects None k v h e = absurd (cc)

truth_of_type : (objects : Objects) (b : Bool) (k : ValueType) (v : Val) → is_of_type objects Boolean v ≡ true → if_true b Boolean ≡ Some k → IsOfType (sizes_of objects) k v
truth_of_type objects b k v h e = subst (λ (t : ValueType). IsOfType (sizes_of objects) t v) (if_true_is b Boolean k e).1 (of_type objects Boolean v h)

domain_in_range : (objects : Objects) → IsDesign objects → (kind : ChooseKind) → IsOfType (sizes_of objects) (Enumeration 0) (domain_of kind)
domain_in_range objects d kind = at objects.enumerations d.domain kind
  where
    at : (xs : List Enumerated) → slice_get xs 0 ≡ Some domain_type → (kind : ChooseKind) → IsOfType (map (λ (x : Enumerated). length x.literals) xs) (Enumeration 0) (domain_of kind)
    at [] e kind = absurd (cc)
    at (x ∷ xs) e Quiet = let same : x ≡ domain_type = cc in rw same (record { kind_is = refl; range = refl })
    at (x ∷ xs) e Timed = let same : x ≡ domain_type = cc in rw same (record { kind_is = refl; range = refl })

-- what is read of a signal that equations read
sees : (objects : Objects) → IsDesign objects → (frame : List Val) → IsFrame objects frame → (kind : ChooseKind) (t : ℕ) (x : List ℤ) (s : SignalName) (k : ValueType) → is_read objects s ≡ true
    → signal_type (equation_scope objects) s ≡ Some k → IsOfType (sizes_of objects) k (seen_of (readings_of objects frame kind t x) s).value
sees objects d frame fits kind t x (name.Signal i) k on known =
    let found : option_map (λ (y : Signal). y.kind) (slice_get objects.signals i) ≡ Some k = sym (slice_get-map (λ (y : Signal). y.kind) objects.signals i) ∙ known in
    let lt : i < length objects.signals = signal_within objects.signals i k found in
    let here = in_frame objects frame (name.Signal i) (val.Bool false) fits (signal_kept objects i on lt) in
    rw (get_or-map-range_with_len (λ j. framed objects frame (name.Signal j)) 0 (length objects.signals) i i (still (val.Bool false)) lt (omega arith))
    (signal_of_type objects (slice_get objects.signals i) k _ here found)
sees objects d frame fits kind t x (name.Threshold i) k on known =
    let lt : i < length objects.thresholds = grind (arith, nat_tests, (if_true_is (nat_lt i (length objects.thresholds)) Boolean k known).0) in
    let here = in_frame objects frame (name.Threshold i) (val.Bool false) fits (threshold_kept objects i on lt) in
    rw (get_or-map-range_with_len (λ j. framed objects frame (name.Threshold j)) 0 (length objects.thresholds) i i (still (val.Bool false)) lt (omega arith))
    (truth_of_type objects (nat_lt i (length objects.thresholds)) k _ here known)
sees objects d frame fits kind t x name.Domain k on known =
    let same : Enumeration 0 ≡ k = cc in
    subst (λ (z : ValueType). IsOfType (sizes_of objects) z (domain_of kind)) same (domain_in_range objects d kind)

-- ---- what can be evaluated

-- what an expression of an equation reads, equations read
abbrev IsRead : Objects → (SignalName → Bool) → Type 0
IsRead objects reads = (s : SignalName) → reads s ≡ true → is_read objects s ≡ true

-- the readings under a frame of a design
record Under (objects : Objects) (r : Readings) : Type 0 where
  frame : List Val
  kind : ChooseKind
  t : ℕ
  x : List ℤ
  design : IsDesign objects
  fits : IsFrame objects frame
  time : t ≤ most_ticks
  is : readings_of objects frame kind t x ≡ r

can : (objects : Objects) (r : Readings) → Under objects r → (e : FlatExpr) (k : ValueType) → HasType (equation_scope objects) e k → IsRead objects (λ s. reads_in s e) → CanEvaluate r e
can objects r u e k typed reads =
    subst (λ (z : Readings). CanEvaluate z e) u.is (record {
      scope = equation_scope objects;
      kind = k;
      typed = typed;
      reads = record {
        signals = λ s j on known. sees objects u.design u.frame u.fits u.kind u.t u.x s j (reads s on) known;
        variables = refl;
        variables_range = All-nil _;
        now = u.time;
      };
    })

can_pair : (objects : Objects) (r : Readings) → Under objects r → (p : Pair) → IsPair objects p → IsRead objects (λ s. pair_reads s p) → CanEvaluatePair r p
can_pair objects r u p h reads =
    record {
      left = can objects r u p.left Real h.left (λ s on. reads s (or_left (reads_in s p.left) (reads_in s p.right) on));
      right = can objects r u p.right Real h.right (λ s on. reads s (or_right (reads_in s p.left) (reads_in s p.right) on));
    }

can_pairs : (objects : Objects) (r : Readings) → Under objects r → (ps : List Pair) → All (IsPair objects) ps → IsRead objects (λ s. list_any (pair_reads s) ps) → All (CanEvaluatePair r) ps
can_pairs objects r u [] hs reads = All-nil (CanEvaluatePair r)
can_pairs objects r u (p ∷ ps) hs reads =
    All-cons (CanEvaluatePair r) p ps
    (can_pair objects r u p (All-head (IsPair objects) p ps hs) (λ s on. reads s (or_left (pair_reads s p) (list_any (pair_reads s) ps) on)))
    (can_pairs objects r u ps (All-tail (IsPair objects) p ps hs) (λ s on. reads s (or_right (pair_reads s p) (list_any (pair_reads s) ps) on)))

can_if_arm : (objects : Objects) (r : Readings) → Under objects r → (size : ℕ) (arm : IfArm) → IsIfArm objects size arm → IsRead objects (λ s. if_arm_reads s arm) → CanEvaluateIfArm r arm
can_if_arm objects r u size arm h reads =
    record {
      condition = can objects r u arm.condition Boolean h.condition (λ s on. reads s (or_left (reads_in s arm.condition) (list_any (pair_reads s) arm.pairs) on));
      pairs = can_pairs objects r u arm.pairs h.body.typed (λ s on. reads s (or_right (reads_in s arm.condition) (list_any (pair_reads s) arm.pairs) on));
    }

can_if_arms : (objects : Objects) (r : Readings) → Under objects r → (size : ℕ) (arms : List IfArm) → All (IsIfArm objects size) arms → IsRead objects (λ s. list_any (if_arm_reads s) arms) → All (CanEvaluateIfArm r) arms
can_if_arms objects r u size [] hs reads = All-nil (CanEvaluateIfArm r)
can_if_arms objects r u size (arm ∷ arms) hs reads =
    All-cons (CanEvaluateIfArm r) arm arms
    (can_if_arm objects r u size arm (All-head (IsIfArm objects size) arm arms hs) (λ s on. reads s (or_left (if_arm_reads s arm) (list_any (if_arm_reads s) arms) on)))
    (can_if_arms objects r u size arms (All-tail (IsIfArm objects size) arm arms hs) (λ s on. reads s (or_right (if_arm_reads s arm) (list_any (if_arm_reads s) arms) on)))

abbrev IsCaseArm : Objects → ℕ → CaseArm → Type 0
IsCaseArm objects size arm = IsBody objects size arm.pairs

can_case_arms : (objects : Objects) (r : Readings) → Under objects r → (size : ℕ) (arms : List CaseArm) → All (IsCaseArm objects size) arms → IsRead objects (λ s. list_any (case_arm_reads s) arms) → All (CanEvaluateCaseArm r) arms
can_case_arms objects r u size [] hs reads = All-nil (CanEvaluateCaseArm r)
can_case_arms objects r u size (arm ∷ arms) hs reads =
    let here : IsCaseArm objects size arm = All-head (IsCaseArm objects size) arm arms hs in
    All-cons (CanEvaluateCaseArm r) arm arms
    (can_pairs objects r u arm.pairs here.typed (λ s on. reads s (or_left (case_arm_reads s arm) (list_any (case_arm_reads s) arms) on)))
    (can_case_arms objects r u size arms (All-tail (IsCaseArm objects size) arm arms hs) (λ s on. reads s (or_right (case_arm_reads s arm) (list_any (case_arm_reads s) arms) on)))

can_selection : (objects : Objects) (r : Readings) → Under objects r → (size : ℕ) (c : Selection) → IsSelection objects size c → IsRead objects (λ s. selection_reads s c) → CanEvaluateSelection r c
can_selection objects r u size (selection.If arms last) h reads =
    record {
      arms_can = can_if_arms objects r u size arms h.0 (λ s on. reads s (or_left (list_any (if_arm_reads s) arms) (list_any (pair_reads s) last) on));
      last_can = can_pairs objects r u last h.1.typed (λ s on. reads s (or_right (list_any (if_arm_reads s) arms) (list_any (pair_reads s) last) on));
    }
can_selection objects r u size (selection.Case e arms) h reads =
    record {
      expression = can objects r u e h.kind h.typed (λ s on. reads s (or_left (reads_in s e) (list_any (case_arm_reads s) arms) on));
      arms_can = can_case_arms objects r u size arms h.bodies (λ s on. reads s (or_right (reads_in s e) (list_any (case_arm_reads s) arms) on));
    }

can_equation : (objects : Objects) (r : Readings) → Under objects r → (x : Equation) → IsEquation objects x → IsRead objects (λ s. equation_reads s x) → CanEvaluateEquation r x
can_equation objects r u (equation.Pair p) h reads = can_pair objects r u p h reads
can_equation objects r u (equation.Choice c) h reads = can_selection objects r u c.size c.selection h reads

can_equations : (objects : Objects) (r : Readings) → Under objects r → (xs : List Equation) → All (IsEquation objects) xs → IsRead objects (λ s. list_any (equation_reads s) xs) → All (CanEvaluateEquation r) xs
can_equations objects r u [] hs reads = All-nil (CanEvaluateEquation r)
can_equations objects r u (x ∷ xs) hs reads =
    All-cons (CanEvaluateEquation r) x xs
    (can_equation objects r u x (All-head (IsEquation objects) x xs hs) (λ s on. reads s (or_left (equation_reads s x) (list_any (equation_reads s) xs) on)))
    (can_equations objects r u xs (All-tail (IsEquation objects) x xs hs) (λ s on. reads s (or_right (equation_reads s x) (list_any (equation_reads s) xs) on)))

pub equations : EquationsCanBeEvaluated
equations objects d frame fits kind t late x =
    can_equations objects (readings_of objects frame kind t x) (record { frame = frame; kind = kind; t = t; x = x; design = d; fits = fits; time = late; is = refl })
    objects.equations d.equations (λ s on. on)
