-- Subtypes and values of declarations, read twice.
use Rattle.std.proofs.Common.{◌≡◌, ℕ, List, Option, Some, None, refl, ap, subst}
use Rattle.ams_tree.specs.declared.declaration.Bounds.{Bounds}
use Rattle.ams_tree.specs.declared.declaration.Range.{Range}
use Rattle.ams_tree.specs.declared.declaration.SubtypeIndication.{SubtypeIndication}
use Rattle.ams_tree.specs.declared.expression.Expr.{Expr}
use Rattle.name_scope.specs.declared.thing.Subtype.{Subtype}
use Rattle.name_scope.specs.declared.thing.Thing.{Thing}
use Rattle.name_scope.specs.declared.scope.Scope.{Scope}
use Rattle.name_scope.specs.Scopes.{lookup}
use Rattle.elab_meaning.specs.declared.fault.Notes.{Notes}
use Rattle.elab_meaning.specs.declared.part.Part.{Part}
use Rattle.elab_meaning.specs.declared.typed.Asked.{Asked}
use Rattle.elab_meaning.specs.declared.typed.Valued.{Valued}
use Rattle.elab_meaning.specs.Parts.{part_of, judged, both, found_thing}
use Rattle.elab_meaning.specs.Subtypes.{declaring, static_part, ranged_index, index_subtype, marked, narrowed_by, in_bounds, subtype, written, default, initial, valued}
use Rattle.again_laws.specs.Again.{BreaksAlike}
use Rattle.again_laws.proofs.Breaks.{breaks_same, breaks_on}
use Rattle.again_laws.proofs.Reading.{static_like}
use Rattle.again_part_laws.proofs.Parts.{breaks_found, same_thing}

-- two readings break alike and find the same
pub record FindsSame (A : Type 0) (n m : Notes) (f g : Notes × Part A) : Type 0 where
  pub breaks : BreaksAlike n m f.0 g.0
  pub part : f.1 ≡ g.1

same_two : (A B C : Type 0) (rule : A → B → C) (a c : A) (b d : B) → a ≡ c → b ≡ d → rule a b ≡ rule c d
same_two A B C rule a c b d h g = subst (λ (z : A). rule a b ≡ rule z d) h (subst (λ (z : B). rule a b ≡ rule a z) g refl)

module _ (texts : List (List ℕ)) (scope : Scope) where
  static_same : (x : Expr) (n m : Notes) → FindsSame Asked n m (static_part texts scope x n) (static_part texts scope x m)
  static_same x n m =
      let read = static_like texts scope x declaring n m in
      record { breaks = read.notes; part = ap part_of read.asked_is }

  index_same : (r : Option Range) (n m : Notes) → FindsSame (Option Subtype) n m (index_subtype texts scope r n) (index_subtype texts scope r m)
  index_same None n m = record { breaks = breaks_same n m; part = refl }
  index_same (Some r) n m =
      let a = static_part texts scope r.left n in
      let b = static_part texts scope r.left m in
      let c = static_part texts scope r.right a.0 in
      let d = static_part texts scope r.right b.0 in
      let first : FindsSame Asked n m a b = static_same r.left n m in
      let second : FindsSame Asked a.0 b.0 c d = static_same r.right a.0 b.0 in
      record {
        breaks = breaks_on n m a.0 b.0 c.0 d.0 first.breaks second.breaks;
        part = same_two (Part Asked) (Part Asked) (Part (Option Subtype)) (ranged_index r.direction) a.1 b.1 c.1 d.1 first.part second.part;
      }

  bounds_same : (r : Option Bounds) (s u : Part Subtype) (n m : Notes) → s ≡ u → FindsSame Subtype n m (in_bounds texts scope r s n) (in_bounds texts scope r u m)
  bounds_same None s u n m same = record { breaks = breaks_same n m; part = same }
  bounds_same (Some r) s u n m same =
      let a = static_part texts scope r.low n in
      let b = static_part texts scope r.low m in
      let c = static_part texts scope r.high a.0 in
      let d = static_part texts scope r.high b.0 in
      let first : FindsSame Asked n m a b = static_same r.low n m in
      let second : FindsSame Asked a.0 b.0 c d = static_same r.high a.0 b.0 in
      record {
        breaks = breaks_on n m a.0 b.0 c.0 d.0 first.breaks second.breaks;
        part =
            subst (λ (z : Part Subtype). narrowed_by s a.1 c.1 ≡ narrowed_by z b.1 d.1) same
            (same_two (Part Asked) (Part Asked) (Part Subtype) (narrowed_by s) a.1 b.1 c.1 d.1 first.part second.part);
      }

  subtype_same : (i : SubtypeIndication) (n m : Notes) → FindsSame Subtype n m (subtype texts scope i n) (subtype texts scope i m)
  subtype_same i n m =
      let a = found_thing i.mark (lookup scope i.mark.number) n in
      let b = found_thing i.mark (lookup scope i.mark.number) m in
      let c = index_subtype texts scope i.index a.0 in
      let d = index_subtype texts scope i.index b.0 in
      let f = in_bounds texts scope i.bounds (both marked a.1 c.1) c.0 in
      let g = in_bounds texts scope i.bounds (both marked b.1 d.1) d.0 in
      let second : FindsSame (Option Subtype) a.0 b.0 c d = index_same i.index a.0 b.0 in
      let third : FindsSame Subtype c.0 d.0 f g =
      bounds_same i.bounds (both marked a.1 c.1) (both marked b.1 d.1) c.0 d.0
      (same_two (Part Thing) (Part (Option Subtype)) (Part Subtype) (both marked) a.1 b.1 c.1 d.1 (same_thing i.mark (lookup scope i.mark.number) n m) second.part) in
      record {
        breaks =
            breaks_on n m a.0 b.0 f.0 g.0 (breaks_found i.mark (lookup scope i.mark.number) n m)
            (breaks_on a.0 b.0 c.0 d.0 f.0 g.0 second.breaks third.breaks);
        part = third.part;
      }

  initial_same : (s u : Part Subtype) (x : Option Expr) (n m : Notes) → s ≡ u → FindsSame Valued n m (initial texts scope s x n) (initial texts scope u x m)
  initial_same s u None n m same = record { breaks = breaks_same n m; part = ap (λ (z : Part Subtype). judged default z) same }
  initial_same s u (Some x) n m same =
      let value : FindsSame Asked n m (static_part texts scope x n) (static_part texts scope x m) = static_same x n m in
      record {
        breaks = value.breaks;
        part = same_two (Part Subtype) (Part Asked) (Part Valued) (both written) s u (static_part texts scope x n).1 (static_part texts scope x m).1 same value.part;
      }

  pub valued_same : (i : SubtypeIndication) (x : Option Expr) (n m : Notes) → FindsSame Valued n m (valued texts scope i x n) (valued texts scope i x m)
  valued_same i x n m =
      let s = subtype texts scope i n in
      let u = subtype texts scope i m in
      let first : FindsSame Subtype n m s u = subtype_same i n m in
      let second : FindsSame Valued s.0 u.0 (initial texts scope s.1 x s.0) (initial texts scope u.1 x u.0) = initial_same s.1 u.1 x s.0 u.0 first.part in
      record { breaks = breaks_on n m s.0 u.0 (initial texts scope s.1 x s.0).0 (initial texts scope u.1 x u.0).0 first.breaks second.breaks; part = second.part }
