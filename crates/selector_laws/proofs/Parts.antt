-- Parts of simultaneous statements, and the dots in them.
use Rattle.std.proofs.Common.{◌≡◌, ◌≤◌, ⊎_elim, ℕ, Bool, true, false, List, [], ◌∷◌, ◌++◌, length, Option, Some, None, IfSome, refl, sym, ◌∙◌}
use Rattle.std.specs.Prelude.{nat_eq, IsSome, ◌||◌, ◌&&◌}
use Rattle.std.specs.List.{list_any}
use Rattle.std.proofs.lemmas.Bool.{or_left, or_right, or_cases}
use Rattle.std.proofs.lemmas.List.Folds.{list_any-append}
use Rattle.ams_token.specs.declared.token.Place.{Place}
use Rattle.ams_tree.specs.declared.concurrent.Equation.{Equation}
use Rattle.ams_tree.specs.declared.expression.Expr.{Expr}
use Rattle.flat_expr.specs.declared.expr.Unknown.{Unknown}
use Rattle.flat_design.specs.Limits.{unknown_limit}
use Rattle.flat_design.specs.declared.objects.Pair.{Pair}
use Rattle.name_scope.specs.declared.scope.Scope.{Scope}
use Rattle.name_scope.specs.declared.thing.Kind.TheVariants.{Of}
use Rattle.name_scope.specs.declared.thing.QuantityClass.{QuantityClass}
use Rattle.name_scope.specs.declared.thing.Thing.TheVariants as thing
use Rattle.name_scope.specs.Scopes.{lookup}
use Rattle.ams_value.specs.declared.value_type.ValueType.TheVariants as t
use Rattle.elab_meaning.specs.declared.fault.Fault.{Fault}
use Rattle.elab_meaning.specs.declared.fault.Notes.{Notes}
use Rattle.elab_meaning.specs.declared.part.Part.{Part}
use Rattle.elab_meaning.specs.declared.part.Part.TheVariants.{Kept, Wrong, Hidden}
use Rattle.elab_meaning.specs.declared.typed.Context.{Context}
use Rattle.elab_meaning.specs.declared.typed.Typed.{Typed}
use Rattle.elab_meaning.specs.Kinds.{same_kind}
use Rattle.elab_meaning.specs.Parts.{part_of, where_true, judged, both, closed}
use Rattle.elab_meaning.specs.Expressions.{expression}
use Rattle.unit_meaning.specs.Settings.{Setting, equating, typed, ahead, sealed}
use Rattle.unit_meaning.specs.Cases.{place_of}
use Rattle.unit_meaning.specs.Simultaneous.{pair_of, pair, pairs, dots_in, dots_in_equations}
use Rattle.design_rules.specs.Equations.{stands_in}
use Rattle.reading_laws.specs.Growing.{Extends, Grows}
use Rattle.reading_laws.proofs.Growing.{grows_same, grows_on}
use Rattle.reading_laws.proofs.Reading.{reading_adds_notes}
use Rattle.draft_laws.proofs.Notes.{grows_closed}
use Rattle.scope_laws.specs.Holds.{HasNoFaults}
use Rattle.selector_laws.specs.Selectors.{HasDot, in_pairs, KeepsReadings}
use Rattle.selector_laws.proofs.Dots.{dot_later, dot_wider, fine_before, short_before}
use Rattle.selector_laws.proofs.Expressions.{Shown, more_dots, expression_shows}

-- ---- parts where no rule is broken inside

-- nothing inside breaks a rule, and what is kept is so
abbrev pub OnShown : (A : Type 0) → (A → Type 0) → Part A → Type 0
OnShown A R (Kept a) = R a
OnShown A R Wrong = Unit {0}
OnShown A R Hidden = ⊥

-- it is kept
abbrev pub OnWhole : (A : Type 0) → (A → Type 0) → Part A → Type 0
OnWhole A R (Kept a) = R a
OnWhole A R Wrong = ⊥
OnWhole A R Hidden = ⊥

pub whole_shown : (A : Type 0) (R : A → Type 0) (p : Part A) → OnWhole A R p → OnShown A R p
whole_shown A R (Kept a) h = h
whole_shown A R Wrong h = absurd h
whole_shown A R Hidden h = absurd h

pub judged_shown : (A B : Type 0) (R : A → Type 0) (S : B → Type 0) (rule : A → Part B) → ((a : A) → R a → OnShown B S (rule a)) → (p : Part A) → OnShown A R p → OnShown B S (judged rule p)
judged_shown A B R S rule h (Kept a) g = h a g
judged_shown A B R S rule h Wrong g = tt
judged_shown A B R S rule h Hidden g = absurd g

pub both_shown : (A B C : Type 0) (R : A → Type 0) (S : B → Type 0) (T : C → Type 0) (rule : A → B → Part C) → ((a : A) (b : B) → R a → S b → OnShown C T (rule a b))
    → (p : Part A) (q : Part B) → OnShown A R p → OnShown B S q → OnShown C T (both rule p q)
both_shown A B C R S T rule h (Kept a) q g k = judged_shown B C S T (rule a) (λ b l. h a b g l) q k
both_shown A B C R S T rule h Wrong (Kept b) g k = tt
both_shown A B C R S T rule h Wrong Wrong g k = tt
both_shown A B C R S T rule h Wrong Hidden g k = absurd k
both_shown A B C R S T rule h Hidden q g k = absurd g

pub where_shown : (A : Type 0) (R : A → Type 0) (b : Bool) (a : A) → R a → OnShown A R (where_true b a)
where_shown A R true a h = h
where_shown A R false a h = tt

not_added : (xs : List Fault) (x : Fault) → xs ++ x ∷ [] ≡ [] → ⊥
not_added [] x h = absurd (cc)
not_added (y ∷ xs) x h = absurd (cc)

-- where its own fault isn't noted either, it is kept
pub sealed_whole : (A : Type 0) (R : A → Type 0) (place : Place) (p : Part A) (n : Notes) → HasNoFaults (closed place p n) → OnShown A R p → OnWhole A R (sealed p)
sealed_whole A R place (Kept a) n h g = g
sealed_whole A R place Wrong n h g = absurd (not_added n.faults _ h)
sealed_whole A R place Hidden n h g = absurd g

module _ (w : Setting) (scope : Scope) (keeps : KeepsReadings w.texts scope) where
  -- each quantity whose name is among these has its dot there
  abbrev pub Each : List ℕ → List ℕ → (Unknown → Bool) → Type 0
  Each names dots S = (x i : ℕ) (c : QuantityClass) → list_any (nat_eq x) names ≡ true → lookup scope x ≡ Some (thing.Quantity i c) → HasDot S dots i

  pub each_wider : (names dots : List ℕ) (S T : Unknown → Bool) → ((u : Unknown) → S u ≡ true → T u ≡ true) → Each names dots S → Each names dots T
  each_wider names dots S T h g x i c named there = dot_wider S T dots i h (g x i c named there)

  pub each_both : (a b dots : List ℕ) (S T : Unknown → Bool) → Each a dots S → Each b dots T → Each (a ++ b) dots (λ u. S u || T u)
  each_both a b dots S T h g x i c named there =
      ⊎_elim (λ old. dot_wider S (λ u. S u || T u) dots i (λ u is. or_left (S u) (T u) is) (h x i c old there))
      (λ new. dot_wider T (λ u. S u || T u) dots i (λ u is. or_right (S u) (T u) is) (g x i c new there))
      (or_cases (list_any (nat_eq x) a) (list_any (nat_eq x) b) (sym (list_any-append (nat_eq x) a b) ∙ named))

  -- what is shown of a reading for all dots, among which those behind it come first
  abbrev pub Reads : (A : Type 0) → List ℕ → (A → Unknown → Bool) → Notes × Part A → Type 0
  Reads A names S found = (all : List ℕ) → Extends ℕ found.0.dots all → length all ≤ unknown_limit → HasNoFaults found.0 → OnShown A (λ a. Each names all (S a)) found.1

  short_front : (old new : List ℕ) → Extends ℕ old new → length new ≤ unknown_limit → length old ≤ unknown_limit
  short_front old new e h =
      short_before (record { faults = []; dots = old; thresholds = [] }) (record { faults = []; dots = new; thresholds = [] })
      (record { faults = record { more = []; whole = refl }; dots = e; thresholds = record { more = []; whole = refl } }) h

  pub typed_reads : (c : Context) (x : Expr) (n : Notes) → Reads Typed (dots_in x) (λ a u. stands_in u a.expr) (typed w scope c x n)
  typed_reads c x n all e short fine =
      let found = expression w.texts scope x c n in
      on found.1 (keeps x c n fine) (expression_shows w.texts scope x c n fine (short_front found.0.dots all e short))
    where
      on : (o : Option Typed) → IsSome o → IfSome o (Shown w.texts scope c (expression w.texts scope x c n).0.dots (dots_in x))
          → OnShown Typed (λ a. Each (dots_in x) all (λ u. stands_in u a.expr)) (part_of o)
      on (Some a) some h = λ y i k named there. dot_later (λ u. stands_in u a.expr) (expression w.texts scope x c n).0.dots all i e (h y i k named there).1
      on None some h = absurd (none_is_not some)
        where
          none_is_not : IsSome {T = Typed} None → ⊥
          none_is_not h = cc

  -- ---- equations

  abbrev pub names_in : Equation → List ℕ
  names_in q = dots_in q.left ++ dots_in q.right

  abbrev pub in_pair : Pair → Unknown → Bool
  in_pair p u = stands_in u p.left || stands_in u p.right

  pub grows_pair : (q : Equation) (n : Notes) → Grows n (pair w scope q n).0
  grows_pair q n =
      let left = typed w scope equating q.left n in
      let right = typed w scope equating q.right left.0 in
      let whole = both pair_of left.1 right.1 in
      grows_on n left.0 (closed (place_of q.left) whole right.0) (reading_adds_notes w.texts scope q.left equating n)
      (grows_on left.0 right.0 (closed (place_of q.left) whole right.0) (reading_adds_notes w.texts scope q.right equating left.0) (grows_closed Pair (place_of q.left) whole right.0))

  pub pair_reads : (q : Equation) (n : Notes) (all : List ℕ) → Extends ℕ (pair w scope q n).0.dots all → length all ≤ unknown_limit → HasNoFaults (pair w scope q n).0
      → OnWhole Pair (λ p. Each (names_in q) all (in_pair p)) (pair w scope q n).1
  pair_reads q n all e short fine =
      let left = typed w scope equating q.left n in
      let right = typed w scope equating q.right left.0 in
      let whole = both pair_of left.1 right.1 in
      let behind = closed (place_of q.left) whole right.0 in
      let goes : Grows right.0 behind = grows_closed Pair (place_of q.left) whole right.0 in
      let on : Grows left.0 right.0 = reading_adds_notes w.texts scope q.right equating left.0 in
      let fine_right : HasNoFaults right.0 = fine_before right.0 behind goes fine in
      let e_right : Extends ℕ right.0.dots all = more_dots right.0.dots behind.dots all goes.dots e in
      sealed_whole Pair (λ p. Each (names_in q) all (in_pair p)) (place_of q.left) whole right.0 fine
      (both_shown Typed Typed Pair (λ a. Each (dots_in q.left) all (λ u. stands_in u a.expr)) (λ a. Each (dots_in q.right) all (λ u. stands_in u a.expr)) (λ p. Each (names_in q) all (in_pair p)) pair_of
      (λ a b h g.
      where_shown Pair (λ p. Each (names_in q) all (in_pair p)) (same_kind a.kind (Of t.Real) && same_kind b.kind (Of t.Real)) (record { left = a.expr; right = b.expr })
      (each_both (dots_in q.left) (dots_in q.right) all (λ u. stands_in u a.expr) (λ u. stands_in u b.expr) h g))
      left.1 right.1 (typed_reads equating q.left n all (more_dots left.0.dots right.0.dots all on.dots e_right) short (fine_before left.0 right.0 on fine_right))
      (typed_reads equating q.right left.0 all e_right short fine_right))

  pub grows_pairs : (all : List Equation) (n : Notes) → Grows n (pairs w scope all n).0
  grows_pairs [] n = grows_same n
  grows_pairs (q ∷ more) n =
      let first = pair w scope q n in
      grows_on n first.0 (pairs w scope more first.0).0 (grows_pair q n) (grows_pairs more first.0)

  no_names : (dots : List ℕ) (S : Unknown → Bool) → Each [] dots S
  no_names dots S x i c named there = absurd (cc)

  pub pairs_read : (qs : List Equation) (n : Notes) → Reads (List Pair) (dots_in_equations qs) in_pairs (pairs w scope qs n)
  pairs_read [] n all e short fine = no_names all (in_pairs [])
  pairs_read (q ∷ more) n all e short fine =
      let first = pair w scope q n in
      let rest = pairs w scope more first.0 in
      let on : Grows first.0 rest.0 = grows_pairs more first.0 in
      both_shown Pair (List Pair) (List Pair) (λ p. Each (names_in q) all (in_pair p)) (λ ps. Each (dots_in_equations more) all (in_pairs ps))
      (λ ps. Each (names_in q ++ dots_in_equations more) all (in_pairs ps)) ahead
      (λ p ps h g. each_both (names_in q) (dots_in_equations more) all (in_pair p) (in_pairs ps) h g) first.1 rest.1
      (whole_shown Pair (λ p. Each (names_in q) all (in_pair p)) first.1 (pair_reads q n all (more_dots first.0.dots rest.0.dots all on.dots e) short (fine_before first.0 rest.0 on fine)))
      (pairs_read more first.0 all e short fine)
