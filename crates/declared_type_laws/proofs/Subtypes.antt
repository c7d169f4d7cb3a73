-- Subtypes are of types that their marks name.
use Rattle.std.proofs.Common.{◌≡◌, ℕ, Bool, true, false, if◌then◌else◌, List, Option, Some, None, IfSome}
use Rattle.std.specs.Prelude.{◌&&◌}
use Rattle.ams_tree.specs.declared.declaration.Bounds.{Bounds}
use Rattle.ams_tree.specs.declared.declaration.Direction.{Direction}
use Rattle.ams_tree.specs.declared.declaration.Range.{Range}
use Rattle.ams_tree.specs.declared.declaration.SubtypeIndication.{SubtypeIndication}
use Rattle.ams_tree.specs.declared.expression.Expr.{Expr}
use Rattle.ams_tree.specs.declared.expression.Name.{Name}
use Rattle.ams_value.specs.declared.val.Val.{Val}
use Rattle.ams_value.specs.declared.val.Val.TheVariants as val
use Rattle.flat_expr.specs.declared.subtype.Constraint.{Constraint}
use Rattle.ams_value.specs.declared.value_type.ValueType.TheVariants as t
use Rattle.name_scope.specs.declared.thing.Kind.{Kind}
use Rattle.name_scope.specs.declared.thing.Kind.TheVariants.{Of, Vector}
use Rattle.name_scope.specs.declared.thing.Subtype.{Subtype}
use Rattle.name_scope.specs.declared.thing.Thing.{Thing}
use Rattle.name_scope.specs.declared.thing.Thing.TheVariants as thing
use Rattle.name_scope.specs.declared.scope.Scope.{Scope}
use Rattle.name_scope.specs.Scopes.{lookup}
use Rattle.elab_meaning.specs.declared.fault.Notes.{Notes}
use Rattle.elab_meaning.specs.declared.part.Part.{Part}
use Rattle.elab_meaning.specs.declared.part.Part.TheVariants.{Kept, Wrong, Hidden}
use Rattle.elab_meaning.specs.declared.typed.Asked.{Asked}
use Rattle.elab_meaning.specs.declared.typed.Valued.{Valued}
use Rattle.elab_meaning.specs.Kinds.{same_kind}
use Rattle.elab_meaning.specs.Parts.{kept, where_true, judged, both, found_thing}
use Rattle.elab_meaning.specs.Subtypes.{static_part, vector_of, index_bound, bounded, given_index, indexed, ranged_index, index_subtype, marked, is_ranged, ranged, range_of, narrowed, wrong_beside, narrowed_by, in_bounds, subtype, written, default, initial, valued}
use Rattle.declared_type_laws.specs.Types.{TypeKeeps}

-- ---- parts

abbrev pub OnPart : (A : Type 0) → (A → Type 0) → Part A → Type 0
OnPart A R p = IfSome (kept p) R

pub judged_on : (A B : Type 0) (S : A → Type 0) (R : B → Type 0) (rule : A → Part B) → ((a : A) → S a → OnPart B R (rule a)) → (p : Part A) → OnPart A S p → OnPart B R (judged rule p)
judged_on A B S R rule h (Kept a) s = h a s
judged_on A B S R rule h Wrong s = tt
judged_on A B S R rule h Hidden s = tt

both_on : (A B C : Type 0) (S : A → Type 0) (T : B → Type 0) (R : C → Type 0) (rule : A → B → Part C) → ((a : A) (b : B) → S a → T b → OnPart C R (rule a b))
    → (p : Part A) (q : Part B) → OnPart A S p → OnPart B T q → OnPart C R (both rule p q)
both_on A B C S T R rule h (Kept a) q s t = judged_on B C T R (rule a) (λ b u. h a b s u) q t
both_on A B C S T R rule h Wrong (Kept b) s t = tt
both_on A B C S T R rule h Wrong Wrong s t = tt
both_on A B C S T R rule h Wrong Hidden s t = tt
both_on A B C S T R rule h Hidden q s t = tt

abbrev Any : (A : Type 0) → A → Type 0
Any A a = Unit {0}

pub any_on : (A : Type 0) (p : Part A) → OnPart A (Any A) p
any_on A (Kept a) = tt
any_on A Wrong = tt
any_on A Hidden = tt

where_on : (A : Type 0) (R : A → Type 0) (b : Bool) (a : A) → R a → OnPart A R (where_true b a)
where_on A R true a h = h
where_on A R false a h = tt

found_on : (R : Thing → Type 0) (x : Name) (o : Option Thing) (n : Notes) → IfSome o R → OnPart Thing R (found_thing x o n).1
found_on R x None n h = tt
found_on R x (Some thing.Faulty) n h = tt
found_on R x (Some t) n h = h

module _ (P : Kind → Bool) (bits : (m : ℕ) → P (Of (t.BitVector m)) ≡ true) (open_vector : P Vector ≡ true) where
  abbrev pub Fine : Subtype → Type 0
  Fine s = P s.kind ≡ true

  abbrev HasFine : Thing → Type 0
  HasFine x = TypeKeeps P x

  abbrev MayFine : Option Subtype → Type 0
  MayFine o = IfSome o Fine

  -- ---- vectors

  vector_fine : (d : Direction) (left right : Option ℕ) → Fine (vector_of d left right)
  vector_fine d (Some l) (Some r) = bits _
  vector_fine d (Some l) None = open_vector
  vector_fine d None r = open_vector

  bounded_fine : (d : Direction) (a b : Asked) → OnPart Subtype Fine (bounded d a b)
  bounded_fine d a b =
      both_on (Option ℕ) (Option ℕ) Subtype (Any (Option ℕ)) (Any (Option ℕ)) Fine (λ left right. Kept (vector_of d left right)) (λ left right s t. vector_fine d left right)
      (index_bound a) (index_bound b) (any_on (Option ℕ) (index_bound a)) (any_on (Option ℕ) (index_bound b))

  indexed_fine : (d : Direction) (a b : Asked) → OnPart (Option Subtype) MayFine (indexed d a b)
  indexed_fine d a b = judged_on Subtype (Option Subtype) Fine MayFine given_index (λ s h. h) (bounded d a b) (bounded_fine d a b)

  ranged_index_fine : (d : Direction) (left right : Part Asked) → OnPart (Option Subtype) MayFine (ranged_index d left right)
  ranged_index_fine d left right =
      both_on Asked Asked (Option Subtype) (Any Asked) (Any Asked) MayFine (indexed d) (λ a b s t. indexed_fine d a b) left right (any_on Asked left) (any_on Asked right)

  index_fine : (texts : List (List ℕ)) (scope : Scope) (r : Option Range) (m : Notes) → OnPart (Option Subtype) MayFine (index_subtype texts scope r m).1
  index_fine texts scope None m = tt
  index_fine texts scope (Some r) m =
      let left = static_part texts scope r.left m in
      ranged_index_fine r.direction left.1 (static_part texts scope r.right left.0).1

  marked_fine : (x : Thing) (s : Option Subtype) → HasFine x → MayFine s → OnPart Subtype Fine (marked x s)
  marked_fine thing.BitVector (Some s) h k = k
  marked_fine (thing.Type s f) None h k = h
  marked_fine _ _ h k = tt

  -- ---- ranges of values

  ranged_fine : (s : Subtype) → Fine s → (b : Bool) (low high : Val) (c : Constraint) → OnPart Subtype Fine (ranged s b low high c)
  ranged_fine s h b low high c = where_on Subtype Fine _ _ h

  range_fine : (s : Subtype) → Fine s → (v w : Option Val) → OnPart Subtype Fine (range_of s v w)
  range_fine s h (Some (val.Int a)) (Some (val.Int b)) = ranged_fine s h _ (val.Int a) (val.Int b) _
  range_fine s h (Some (val.Real a)) (Some (val.Real b)) = ranged_fine s h _ (val.Real a) (val.Real b) _
  range_fine s h _ _ = h

  narrowed_fine : (s : Subtype) → Fine s → (a b : Asked) → OnPart Subtype Fine (narrowed s a b)
  narrowed_fine s h a b = go (is_ranged s.kind && same_kind a.kind s.kind && same_kind b.kind s.kind)
    where
      go : (c : Bool) → OnPart Subtype Fine (if c then range_of s a.value b.value else Wrong)
      go true = range_fine s h a.value b.value
      go false = tt

  by_fine : (s : Part Subtype) (a b : Part Asked) → OnPart Subtype Fine s → OnPart Subtype Fine (narrowed_by s a b)
  by_fine (Kept s) a b h = both_on Asked Asked Subtype (Any Asked) (Any Asked) Fine (narrowed s) (λ x y p q. narrowed_fine s h x y) a b (any_on Asked a) (any_on Asked b)
  by_fine Wrong a b h = both_on Asked Asked Subtype (Any Asked) (Any Asked) Fine wrong_beside (λ x y p q. tt) a b (any_on Asked a) (any_on Asked b)
  by_fine Hidden a b h = tt

  bounds_fine : (texts : List (List ℕ)) (scope : Scope) (r : Option Bounds) (s : Part Subtype) (m : Notes) → OnPart Subtype Fine s → OnPart Subtype Fine (in_bounds texts scope r s m).1
  bounds_fine texts scope None s m h = h
  bounds_fine texts scope (Some r) s m h =
      let low = static_part texts scope r.low m in
      by_fine s low.1 (static_part texts scope r.high low.0).1 h

  -- ---- the whole

  module _ (texts : List (List ℕ)) (scope : Scope) (names : (y : ℕ) → IfSome (lookup scope y) (TypeKeeps P)) where
    pub subtype_fine : (i : SubtypeIndication) (m : Notes) → OnPart Subtype Fine (subtype texts scope i m).1
    subtype_fine i m =
        let mark = found_thing i.mark (lookup scope i.mark.number) m in
        let index = index_subtype texts scope i.index mark.0 in
        bounds_fine texts scope i.bounds (both marked mark.1 index.1) index.0
        (both_on Thing (Option Subtype) Subtype HasFine MayFine Fine marked marked_fine mark.1 index.1 (found_on HasFine i.mark (lookup scope i.mark.number) m (names i.mark.number))
        (index_fine texts scope i.index mark.0))

    abbrev pub FineValued : Valued → Type 0
    FineValued v = Fine v.subtype

    initial_fine : (s : Part Subtype) (x : Option Expr) (m : Notes) → OnPart Subtype Fine s → OnPart Valued FineValued (initial texts scope s x m).1
    initial_fine s None m h = judged_on Subtype Valued Fine FineValued default (λ k g. where_on Valued FineValued _ _ g) s h
    initial_fine s (Some x) m h =
        let value = static_part texts scope x m in
        both_on Subtype Asked Valued Fine (Any Asked) FineValued written (λ k a g t. where_on Valued FineValued _ _ g) s value.1 h (any_on Asked value.1)

    pub valued_fine : (i : SubtypeIndication) (x : Option Expr) (m : Notes) → OnPart Valued FineValued (valued texts scope i x m).1
    valued_fine i x m =
        let s = subtype texts scope i m in
        initial_fine s.1 x s.0 (subtype_fine i m)
