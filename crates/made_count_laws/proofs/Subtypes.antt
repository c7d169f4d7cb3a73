-- Subtypes and values of declarations that are read without a fault.
use Rattle.std.proofs.Common.{◌≡◌, ℕ, ℤ, pos, Bool, true, false, if◌then◌else◌, List, [], ◌∷◌, Option, Some, None, IfSome}
use Rattle.std.specs.Prelude.{◌&&◌, nat_eq}
use Rattle.ams_token.specs.declared.token.Place.{Place}
use Rattle.ams_tree.specs.declared.expression.Name.{Name}
use Rattle.ams_tree.specs.declared.expression.Expr.{Expr}
use Rattle.ams_tree.specs.declared.declaration.Bounds.{Bounds}
use Rattle.ams_tree.specs.declared.declaration.Direction.{Direction}
use Rattle.ams_tree.specs.declared.declaration.Range.{Range}
use Rattle.ams_tree.specs.declared.declaration.SubtypeIndication.{SubtypeIndication}
use Rattle.ams_value.specs.declared.val.Val.{Val}
use Rattle.ams_value.specs.declared.val.Val.TheVariants as val
use Rattle.ams_value.specs.declared.value_type.ValueType.TheVariants as t
use Rattle.flat_design.specs.declared.objects.Terminal.{Terminal}
use Rattle.name_scope.specs.declared.thing.Kind.TheVariants.{Of}
use Rattle.name_scope.specs.declared.thing.Subtype.{Subtype}
use Rattle.name_scope.specs.declared.thing.Thing.{Thing}
use Rattle.name_scope.specs.declared.thing.Thing.TheVariants as thing
use Rattle.name_scope.specs.declared.scope.Scope.{Scope}
use Rattle.name_scope.specs.Scopes.{lookup}
use Rattle.elab_meaning.specs.declared.book.Book.{Book}
use Rattle.elab_meaning.specs.declared.fault.Cause.TheVariants.{NatureMismatch}
use Rattle.elab_meaning.specs.declared.fault.Notes.{Notes}
use Rattle.elab_meaning.specs.declared.part.Part.{Part}
use Rattle.elab_meaning.specs.declared.part.Part.TheVariants.{Kept, Wrong, Hidden}
use Rattle.elab_meaning.specs.declared.typed.Asked.{Asked}
use Rattle.elab_meaning.specs.declared.typed.Valued.{Valued}
use Rattle.elab_meaning.specs.Notes.{noted}
use Rattle.elab_meaning.specs.Kinds.{same_kind}
use Rattle.elab_meaning.specs.Parts.{where_true, judged, both, found_thing}
use Rattle.elab_meaning.specs.Subtypes.{static_part, holds, bound_value, index_bound, vector_of, bounded, given_index, indexed, index_subtype, marked, is_ranged, range_of, narrowed, wrong_beside, narrowed_by, in_bounds, subtype, leftmost, written, default, initial, valued}
use Rattle.elab_meaning.specs.Declarations.{nature_of, nature_named, initial_real, free_of, free_value, free_quantity, terminal_of, terminal_named, matched, matched_ends, ends, to_reference, branch}
use Rattle.unit_meaning.specs.Interfaces.{unvalued, generic_default, quantity_subtype}
use Rattle.kept_laws.specs.Kept.{IsFaultless, NamesAreFaultless}
use Rattle.made_count_laws.proofs.Parts.{NoFaults, before_noted, NotHidden, judged_shown, both_shown, where_shown, if_shown, Reads, static_reads, thing_reads}

-- ---- indices

bound_shown : (v : Option Val) → NotHidden (bound_value v)
bound_shown (Some (val.Int i)) = where_shown (Option ℕ) _ _
bound_shown (Some _) = tt
bound_shown None = tt

index_shown : (a : Asked) → NotHidden (index_bound a)
index_shown a = if_shown (Option ℕ) (same_kind a.kind (Of t.Integer)) (bound_value a.value) Wrong (bound_shown a.value) tt

indexed_shown : (d : Direction) (a b : Asked) → NotHidden (indexed d a b)
indexed_shown d a b =
    judged_shown Subtype (Option Subtype) given_index (λ s. tt) (bounded d a b)
    (both_shown (Option ℕ) (Option ℕ) Subtype (λ left right. Kept (vector_of d left right)) (λ x y. tt) (index_bound a) (index_bound b) (index_shown a) (index_shown b))

module _ (texts : List (List ℕ)) (scope : Scope) where
  abbrev Sound : Type 0
  Sound = NamesAreFaultless scope

  index_reads : (r : Option Range) (n : Notes) → Reads Sound (Option Subtype) n (index_subtype texts scope r n)
  index_reads None n = record { before = λ f. f; shown = λ g f. tt }
  index_reads (Some r) n =
      let left = static_part texts scope r.left n in
      let right = static_part texts scope r.right left.0 in
      let one = static_reads texts scope r.left n in
      let two = static_reads texts scope r.right left.0 in
      record {
        before = λ f. one.before (two.before f);
        shown = λ g f. both_shown Asked Asked (Option Subtype) (indexed r.direction) (indexed_shown r.direction) left.1 right.1 (one.shown g (two.before f)) (two.shown g f);
      }

  marked_shown : (x : Thing) (s : Option Subtype) → NotHidden (marked x s)
  marked_shown thing.BitVector (Some s) = tt
  marked_shown thing.BitVector None = tt
  marked_shown (thing.Type s f) None = tt
  marked_shown (thing.Type s f) (Some u) = tt
  marked_shown _ s = tt

  range_shown : (s : Subtype) (a b : Option Val) → NotHidden (range_of s a b)
  range_shown s (Some (val.Int a)) (Some (val.Int b)) = where_shown Subtype _ _
  range_shown s (Some (val.Real a)) (Some (val.Real b)) = where_shown Subtype _ _
  range_shown s _ _ = tt

  narrowed_shown : (s : Subtype) (a b : Asked) → NotHidden (narrowed s a b)
  narrowed_shown s a b = if_shown Subtype (is_ranged s.kind && same_kind a.kind s.kind && same_kind b.kind s.kind) (range_of s a.value b.value) Wrong (range_shown s a.value b.value) tt

  by_shown : (s : Part Subtype) (a b : Part Asked) → NotHidden s → NotHidden a → NotHidden b → NotHidden (narrowed_by s a b)
  by_shown (Kept s) a b h k l = both_shown Asked Asked Subtype (narrowed s) (narrowed_shown s) a b k l
  by_shown Wrong a b h k l = both_shown Asked Asked Subtype wrong_beside (λ x y. tt) a b k l
  by_shown Hidden a b h k l = h

  bounds_read : (r : Option Bounds) (s : Part Subtype) (n : Notes) → Reads (Sound × NotHidden s) Subtype n (in_bounds texts scope r s n)
  bounds_read None s n = record { before = λ f. f; shown = λ g f. g.1 }
  bounds_read (Some r) s n =
      let low = static_part texts scope r.low n in
      let high = static_part texts scope r.high low.0 in
      let one = static_reads texts scope r.low n in
      let two = static_reads texts scope r.high low.0 in
      record {
        before = λ f. one.before (two.before f);
        shown = λ g f. by_shown s low.1 high.1 g.1 (one.shown g.0 (two.before f)) (two.shown g.0 f);
      }

  pub subtype_reads : (i : SubtypeIndication) (n : Notes) → Reads Sound Subtype n (subtype texts scope i n)
  subtype_reads i n =
      let mark = found_thing i.mark (lookup scope i.mark.number) n in
      let index = index_subtype texts scope i.index mark.0 in
      let one = thing_reads i.mark (lookup scope i.mark.number) n in
      let two = index_reads i.index mark.0 in
      let whole = both marked mark.1 index.1 in
      let three = bounds_read i.bounds whole index.0 in
      record {
        before = λ f. one.before (two.before (three.before f));
        shown = λ g f.
            let behind = three.before f in
            three.shown (g, both_shown Thing (Option Subtype) Subtype marked marked_shown mark.1 index.1 (one.shown (g i.mark.number) (two.before behind)) (two.shown g behind)) f;
      }

  -- ---- values

  pub initial_reads : (s : Part Subtype) (x : Option Expr) (n : Notes) → Reads (Sound × NotHidden s) Valued n (initial texts scope s x n)
  initial_reads s None n =
      record { before = λ f. f; shown = λ g f. judged_shown Subtype Valued default (λ k. where_shown Valued (holds k.constraint (leftmost k)) _) s g.1 }
  initial_reads s (Some x) n =
      let value = static_part texts scope x n in
      let one = static_reads texts scope x n in
      record {
        before = λ f. one.before f;
        shown = λ g f. both_shown Subtype Asked Valued written (λ k a. where_shown Valued _ _) s value.1 g.1 (one.shown g.0 f);
      }

  pub valued_reads : (i : SubtypeIndication) (x : Option Expr) (n : Notes) → Reads Sound Valued n (valued texts scope i x n)
  valued_reads i x n =
      let s = subtype texts scope i n in
      let one = subtype_reads i n in
      let two = initial_reads s.1 x s.0 in
      record { before = λ f. one.before (two.before f); shown = λ g f. two.shown (g, one.shown g (two.before f)) f }

  free_shown : (s : Subtype) → NotHidden (free_of s)
  free_shown s = where_shown Subtype (same_kind s.kind (Of t.Real)) s

  value_reads : (s : Part Subtype) (x : Option Expr) (n : Notes) → Reads (Sound × NotHidden s) ℤ n (free_value texts scope s x n)
  value_reads s None n = record { before = λ f. f; shown = λ g f. judged_shown Subtype ℤ (λ (k : Subtype). Kept (pos 0)) (λ k. tt) s g.1 }
  value_reads s (Some x) n =
      let v = initial texts scope s (Some x) n in
      let one = initial_reads s (Some x) n in
      record { before = λ f. one.before f; shown = λ g f. judged_shown Valued ℤ (λ (k : Valued). Kept (initial_real k.value)) (λ k. tt) v.1 (one.shown g f) }

  pub default_reads : (i : SubtypeIndication) (x : Option Expr) (n : Notes) → Reads Sound Valued n (generic_default texts scope i x n)
  default_reads i None n =
      let s = subtype texts scope i n in
      let one = subtype_reads i n in
      record { before = λ f. one.before f; shown = λ g f. judged_shown Subtype Valued unvalued (λ k. tt) s.1 (one.shown g f) }
  default_reads i (Some x) n = valued_reads i (Some x) n

-- ---- with a book

module _ (texts : List (List ℕ)) where
  pub free_reads : (i : SubtypeIndication) (x : Option Expr) (b : Book) → Reads (NamesAreFaultless b.scope) ℤ b.notes (free_quantity texts i x b)
  free_reads i x b =
      let s = subtype texts b.scope i b.notes in
      let one = subtype_reads texts b.scope i b.notes in
      let two = value_reads texts b.scope (judged free_of s.1) x s.0 in
      record {
        before = λ f. one.before (two.before f);
        shown = λ g f. two.shown (g, judged_shown Subtype Subtype free_of (free_shown texts b.scope) s.1 (one.shown g (two.before f))) f;
      }

  pub port_reads : (i : SubtypeIndication) (b : Book) → Reads (NamesAreFaultless b.scope) Subtype b.notes (quantity_subtype texts i b)
  port_reads i b =
      let s = subtype texts b.scope i b.notes in
      let one = subtype_reads texts b.scope i b.notes in
      record { before = λ f. one.before f; shown = λ g f. judged_shown Subtype Subtype free_of (free_shown texts b.scope) s.1 (one.shown g f) }

nature_shown : (x : Thing) → NotHidden (nature_of x)
nature_shown (thing.Nature m) = tt
nature_shown _ = tt

pub nature_reads : (x : Name) (b : Book) → Reads (NamesAreFaultless b.scope) ℕ b.notes (nature_named x b)
nature_reads x b =
    let found = found_thing x (lookup b.scope x.number) b.notes in
    let one = thing_reads x (lookup b.scope x.number) b.notes in
    record { before = λ f. one.before f; shown = λ g f. judged_shown Thing ℕ nature_of nature_shown found.1 (one.shown (g x.number) f) }

-- ---- branches

terminal_shown : (x : Thing) → NotHidden (terminal_of x)
terminal_shown (thing.Terminal end m) = tt
terminal_shown _ = tt

terminal_reads : (x : Name) (b : Book) (n : Notes) → Reads (NamesAreFaultless b.scope) (Terminal × ℕ) n (terminal_named x b n)
terminal_reads x b n =
    let found = found_thing x (lookup b.scope x.number) n in
    let one = thing_reads x (lookup b.scope x.number) n in
    record { before = λ f. one.before f; shown = λ g f. judged_shown Thing (Terminal × ℕ) terminal_of terminal_shown found.1 (one.shown (g x.number) f) }

matched_before : (place : Place) (m k : ℕ) (n : Notes) → NoFaults (matched place m k n) → NoFaults n
matched_before place m k n = go (nat_eq m k)
  where
    go : (b : Bool) → NoFaults (if b then n else noted place NatureMismatch n) → NoFaults n
    go true f = f
    go false f = before_noted place NatureMismatch n f

ends_before : (place : Place) (p q : Part (Terminal × ℕ)) (n : Notes) → NoFaults (matched_ends place p q n) → NoFaults n
ends_before place (Kept plus) (Kept minus) n f = matched_before place plus.1 minus.1 n f
ends_before place (Kept plus) Wrong n f = f
ends_before place (Kept plus) Hidden n f = f
ends_before place Wrong q n f = f
ends_before place Hidden q n f = f

pub branch_reads : (plus : Name) (minus : Option Name) (b : Book) → Reads (NamesAreFaultless b.scope) (Terminal × Terminal) b.notes (branch plus minus b)
branch_reads plus None b =
    let p = terminal_named plus b b.notes in
    let one = terminal_reads plus b b.notes in
    record { before = λ f. one.before f; shown = λ g f. judged_shown (Terminal × ℕ) (Terminal × Terminal) to_reference (λ x. tt) p.1 (one.shown g f) }
branch_reads plus (Some minus) b =
    let p = terminal_named plus b b.notes in
    let m = terminal_named minus b p.0 in
    let one = terminal_reads plus b b.notes in
    let two = terminal_reads minus b p.0 in
    record {
      before = λ f. one.before (two.before (ends_before minus.place p.1 m.1 m.0 f));
      shown = λ g f.
          let here = ends_before minus.place p.1 m.1 m.0 f in
          both_shown (Terminal × ℕ) (Terminal × ℕ) (Terminal × Terminal) ends (λ x y. tt) p.1 m.1 (one.shown g (two.before here)) (two.shown g here);
    }
