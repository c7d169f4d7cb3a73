-- Subtypes and values of declarations, read twice.
use Rattle.std.proofs.Common.{◌≡◌, ℕ, Bool, true, false, List, [], ◌∷◌, Option, Some, None, IfSome, refl, sym, ap, subst}
use Rattle.std.specs.Prelude.{◌&&◌}
use Rattle.ams_tree.specs.declared.declaration.Bounds.{Bounds}
use Rattle.ams_tree.specs.declared.declaration.Range.{Range}
use Rattle.ams_tree.specs.declared.declaration.SubtypeIndication.{SubtypeIndication}
use Rattle.ams_tree.specs.declared.expression.Expr.{Expr}
use Rattle.ams_value.specs.declared.val.Val.{Val}
use Rattle.ams_value.specs.declared.value_type.ValueType.{ValueType}
use Rattle.flat_design.specs.declared.objects.Objects.{Objects}
use Rattle.name_scope.specs.declared.thing.Kind.{Kind}
use Rattle.name_scope.specs.declared.thing.Kind.TheVariants.{Of, Vector}
use Rattle.name_scope.specs.declared.thing.Subtype.{Subtype}
use Rattle.name_scope.specs.declared.thing.Thing.{Thing}
use Rattle.name_scope.specs.declared.scope.Scope.{Scope}
use Rattle.name_scope.specs.Scopes.{lookup}
use Rattle.elab_meaning.specs.declared.fault.Notes.{Notes}
use Rattle.elab_meaning.specs.declared.part.Part.{Part}
use Rattle.elab_meaning.specs.declared.part.Part.TheVariants.{Kept, Wrong, Hidden}
use Rattle.elab_meaning.specs.declared.typed.Asked.{Asked}
use Rattle.elab_meaning.specs.declared.typed.Valued.{Valued}
use Rattle.elab_meaning.specs.Declarations.{constant_value, constant_of}
use Rattle.elab_meaning.specs.Kinds.{same_kind}
use Rattle.elab_meaning.specs.Parts.{part_of, judged, both, found_thing}
use Rattle.elab_meaning.specs.Expressions.{static}
use Rattle.elab_meaning.specs.Subtypes.{declaring, static_part, holds_known, suits, ranged_index, index_subtype, marked, narrowed_by, in_bounds, subtype, written, default, initial, valued}
use Rattle.design_meaning.specs.Typed.{IsOfType}
use Rattle.design_rules.specs.Types.{sizes_of, equation_scope}
use Rattle.typed_laws.specs.Fitting.{FitsValue}
use Rattle.part_laws.specs.Parts.{OnKept}
use Rattle.part_laws.proofs.Parts.{same_type_is, both_kept, where_kept}
use Rattle.note_laws.specs.Noting.{IsNotable, NamesAreNotable, NotesAlike}
use Rattle.note_laws.proofs.Notes.{Alike, alike_same, alike_on}
use Rattle.note_laws.proofs.Reading.{AskedFits, StaticLike, static_like}
use Rattle.part_note_laws.proofs.Parts.{found_alike, same_thing}

-- two readings note alike and find the same
pub record FindsSame (objects : Objects) (A : Type 0) (n m : Notes) (f g : Notes × Part A) : Type 0 where
  pub notes : NotesAlike objects n m f.0 g.0
  pub part : f.1 ≡ g.1

same_two : (A B C : Type 0) (rule : A → B → C) (a c : A) (b d : B) → a ≡ c → b ≡ d → rule a b ≡ rule c d
same_two A B C rule a c b d h g = subst (λ (z : A). rule a b ≡ rule z d) h (subst (λ (z : B). rule a b ≡ rule a z) g refl)

module _ (objects : Objects) (texts : List (List ℕ)) (scope : Scope) (notable : NamesAreNotable objects scope) where
  static_same : (x : Expr) (n m : Notes) → FindsSame objects Asked n m (static_part texts scope x n) (static_part texts scope x m)
  static_same x n m =
      let read : StaticLike objects texts scope notable n m (static texts scope x declaring n) (static texts scope x declaring m) = static_like objects texts scope notable x declaring n m in
      record { notes = read.notes; part = ap part_of read.asked_is }

  asked_part : (o : Option Asked) → IfSome o (AskedFits objects) → OnKept (AskedFits objects) (part_of o)
  asked_part (Some a) h = h
  asked_part None h = tt

  static_fits : (x : Expr) (n : Notes) → OnKept (AskedFits objects) (static_part texts scope x n).1
  static_fits x n = asked_part (static texts scope x declaring n).1 (static_like objects texts scope notable x declaring n n).fits

  index_same : (r : Option Range) (n m : Notes) → FindsSame objects (Option Subtype) n m (index_subtype texts scope r n) (index_subtype texts scope r m)
  index_same None n m = record { notes = alike_same objects n m; part = refl }
  index_same (Some r) n m =
      let a = static_part texts scope r.left n in
      let b = static_part texts scope r.left m in
      let c = static_part texts scope r.right a.0 in
      let d = static_part texts scope r.right b.0 in
      let first : FindsSame objects Asked n m a b = static_same r.left n m in
      let second : FindsSame objects Asked a.0 b.0 c d = static_same r.right a.0 b.0 in
      record {
        notes = alike_on objects n m a.0 b.0 c.0 d.0 first.notes second.notes;
        part = same_two (Part Asked) (Part Asked) (Part (Option Subtype)) (ranged_index r.direction) a.1 b.1 c.1 d.1 first.part second.part;
      }

  bounds_same : (r : Option Bounds) (s u : Part Subtype) (n m : Notes) → s ≡ u → FindsSame objects Subtype n m (in_bounds texts scope r s n) (in_bounds texts scope r u m)
  bounds_same None s u n m same = record { notes = alike_same objects n m; part = same }
  bounds_same (Some r) s u n m same =
      let a = static_part texts scope r.low n in
      let b = static_part texts scope r.low m in
      let c = static_part texts scope r.high a.0 in
      let d = static_part texts scope r.high b.0 in
      let first : FindsSame objects Asked n m a b = static_same r.low n m in
      let second : FindsSame objects Asked a.0 b.0 c d = static_same r.high a.0 b.0 in
      record {
        notes = alike_on objects n m a.0 b.0 c.0 d.0 first.notes second.notes;
        part =
            subst (λ (z : Part Subtype). narrowed_by s a.1 c.1 ≡ narrowed_by z b.1 d.1) same
            (same_two (Part Asked) (Part Asked) (Part Subtype) (narrowed_by s) a.1 b.1 c.1 d.1 first.part second.part);
      }

  subtype_same : (i : SubtypeIndication) (n m : Notes) → FindsSame objects Subtype n m (subtype texts scope i n) (subtype texts scope i m)
  subtype_same i n m =
      let a = found_thing i.mark (lookup scope i.mark.number) n in
      let b = found_thing i.mark (lookup scope i.mark.number) m in
      let c = index_subtype texts scope i.index a.0 in
      let d = index_subtype texts scope i.index b.0 in
      let second : FindsSame objects (Option Subtype) a.0 b.0 c d = index_same i.index a.0 b.0 in
      let third : FindsSame objects Subtype c.0 d.0 (in_bounds texts scope i.bounds (both marked a.1 c.1) c.0) (in_bounds texts scope i.bounds (both marked b.1 d.1) d.0) =
      bounds_same i.bounds (both marked a.1 c.1) (both marked b.1 d.1) c.0 d.0
      (same_two (Part Thing) (Part (Option Subtype)) (Part Subtype) (both marked) a.1 b.1 c.1 d.1 (same_thing objects i.mark (lookup scope i.mark.number) n m) second.part) in
      record {
        notes =
            alike_on objects n m a.0 b.0 (in_bounds texts scope i.bounds (both marked a.1 c.1) c.0).0 (in_bounds texts scope i.bounds (both marked b.1 d.1) d.0).0
            (found_alike objects i.mark (lookup scope i.mark.number) n m)
            (alike_on objects a.0 b.0 c.0 d.0 (in_bounds texts scope i.bounds (both marked a.1 c.1) c.0).0 (in_bounds texts scope i.bounds (both marked b.1 d.1) d.0).0 second.notes third.notes);
        part = third.part;
      }

  initial_same : (s u : Part Subtype) (x : Option Expr) (n m : Notes) → s ≡ u → FindsSame objects Valued n m (initial texts scope s x n) (initial texts scope u x m)
  initial_same s u None n m same = record { notes = alike_same objects n m; part = ap (λ (z : Part Subtype). judged default z) same }
  initial_same s u (Some x) n m same =
      let value : FindsSame objects Asked n m (static_part texts scope x n) (static_part texts scope x m) = static_same x n m in
      record {
        notes = value.notes;
        part = same_two (Part Subtype) (Part Asked) (Part Valued) (both written) s u (static_part texts scope x n).1 (static_part texts scope x m).1 same value.part;
      }

  pub valued_same : (i : SubtypeIndication) (x : Option Expr) (n m : Notes) → FindsSame objects Valued n m (valued texts scope i x n) (valued texts scope i x m)
  valued_same i x n m =
      let s = subtype texts scope i n in
      let u = subtype texts scope i m in
      let first : FindsSame objects Subtype n m s u = subtype_same i n m in
      let second : FindsSame objects Valued s.0 u.0 (initial texts scope s.1 x s.0) (initial texts scope u.1 x u.0) = initial_same s.1 u.1 x s.0 u.0 first.part in
      record { notes = alike_on objects n m s.0 u.0 (initial texts scope s.1 x s.0).0 (initial texts scope u.1 x u.0).0 first.notes second.notes; part = second.part }

  -- ---- constants

  first_true : (a b : Bool) → (a && b) ≡ true → a ≡ true
  first_true true b h = refl
  first_true false b h = absurd (cc)

  given_fits : (k u : Kind) (v : Option Val) → same_kind k u ≡ true → IfSome v (λ (x : Val). FitsValue (equation_scope objects) u (Some x)) → IfSome (constant_value k v) (λ (x : Val). FitsValue (equation_scope objects) k (Some x))
  given_fits (Of k) (Of u) (Some v) is h = subst (λ (z : ValueType). IsOfType (sizes_of objects) z v) (sym (same_type_is k u is)) h
  given_fits (Of k) Vector (Some v) is h = absurd h
  given_fits (Of k) u None is h = tt
  given_fits Vector u v is h = tt

  written_fits : (s : Subtype) (a : Asked) → AskedFits objects a → OnKept (λ (v : Valued). IsNotable objects (constant_of v)) (written s a)
  written_fits s a h =
      where_kept Valued (λ (v : Valued). IsNotable objects (constant_of v)) (suits s a) (record { subtype = s; value = a.value })
      (λ is. given_fits s.kind a.kind a.value (first_true (same_kind s.kind a.kind) (holds_known s.constraint a.value) is) h)

  anything_of : (p : Part Subtype) → OnKept (λ (s : Subtype). Unit {0}) p
  anything_of (Kept s) = tt
  anything_of Wrong = tt
  anything_of Hidden = tt

  pub constant_fits : (i : SubtypeIndication) (x : Expr) (n : Notes) → OnKept (λ (v : Valued). IsNotable objects (constant_of v)) (valued texts scope i (Some x) n).1
  constant_fits i x n =
      let s = subtype texts scope i n in
      both_kept Subtype Asked Valued (λ (s : Subtype). Unit {0}) (AskedFits objects) (λ (v : Valued). IsNotable objects (constant_of v)) written (λ s a h g. written_fits s a g) s.1
      (static_part texts scope x s.0).1 (anything_of s.1) (static_fits x s.0)
