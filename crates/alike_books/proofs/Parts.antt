-- Parts of declarations, read twice.
use Rattle.std.proofs.Common.{◌≡◌, ℕ, Bool, true, false, if◌then◌else◌, List, Option, Some, None}
use Rattle.std.specs.Prelude.{◌&&◌, ◌||◌, int_lt, int_le, pos, unsigned_abs}
use Rattle.ams_tree.specs.declared.expression.Name.{Name}
use Rattle.ams_tree.specs.declared.expression.Expr.{Expr}
use Rattle.ams_tree.specs.declared.declaration.Bounds.{Bounds}
use Rattle.ams_tree.specs.declared.declaration.Direction.{Direction}
use Rattle.ams_tree.specs.declared.declaration.Range.{Range}
use Rattle.ams_tree.specs.declared.declaration.SubtypeIndication.{SubtypeIndication}
use Rattle.ams_value.specs.Ranges.{most_elements}
use Rattle.ams_value.specs.declared.val.Val.{Val}
use Rattle.ams_value.specs.declared.val.Val.TheVariants as val
use Rattle.ams_value.specs.declared.value_type.ValueType.TheVariants as t
use Rattle.name_scope.specs.declared.scope.Scope.{Scope}
use Rattle.name_scope.specs.declared.thing.Kind.TheVariants.{Of}
use Rattle.name_scope.specs.declared.thing.Subtype.{Subtype}
use Rattle.name_scope.specs.declared.thing.Thing.{Thing}
use Rattle.name_scope.specs.declared.thing.Thing.TheVariants as thing
use Rattle.name_scope.specs.Scopes.{lookup}
use Rattle.elab_meaning.specs.declared.fault.Cause.TheVariants.{Unknown}
use Rattle.elab_meaning.specs.declared.fault.Notes.{Notes}
use Rattle.elab_meaning.specs.declared.part.Part.{Part}
use Rattle.elab_meaning.specs.declared.part.Part.TheVariants.{Kept, Wrong, Hidden}
use Rattle.elab_meaning.specs.declared.typed.Asked.{Asked}
use Rattle.elab_meaning.specs.declared.typed.Valued.{Valued}
use Rattle.elab_meaning.specs.Kinds.{same_kind}
use Rattle.elab_meaning.specs.Parts.{where_true, judged, both, found_thing}
use Rattle.elab_meaning.specs.Subtypes.{static_part, bound_value, index_bound, vector_of, bounded, given_index, indexed, index_subtype, marked, is_ranged, holds, range_of, narrowed, wrong_beside, narrowed_by, in_bounds, subtype, suits, written, leftmost, default, initial, valued}
use Rattle.alike_laws.specs.Alike.{HasNoFaults, OnlyTold, Reads, IsShown, is_faulty, AlikeFound, AlikeScopes}
use Rattle.alike_laws.proofs.Notes.{no_fault, follows_same, follows_on, reads_never}
use Rattle.alike_laws.proofs.Whole.{readings_follow}
use Rattle.alike_books.specs.Books.{SubtypesFollow, ValuesFollow}

-- ---- what isn't hidden

pub shown_where : (A : Type 0) (b : Bool) (a : A) → IsShown (where_true b a)
shown_where A true a = tt
shown_where A false a = tt

pub shown_judged : (A B : Type 0) (rule : A → Part B) (p : Part A) → ((a : A) → IsShown (rule a)) → IsShown p → IsShown (judged rule p)
shown_judged A B rule (Kept a) h k = h a
shown_judged A B rule Wrong h k = tt
shown_judged A B rule Hidden h k = k

pub shown_both : (A B C : Type 0) (rule : A → B → Part C) (p : Part A) (q : Part B) → ((a : A) (b : B) → IsShown (rule a b)) → IsShown p → IsShown q → IsShown (both rule p q)
shown_both A B C rule (Kept a) q h k l = shown_judged B C (rule a) q (h a) l
shown_both A B C rule Wrong (Kept b) h k l = tt
shown_both A B C rule Wrong Wrong h k l = tt
shown_both A B C rule Wrong Hidden h k l = l
shown_both A B C rule Hidden q h k l = k

-- ---- names that stand in a declaration

found_shown : (x : Name) (t : Thing) (n : Notes) → is_faulty t ≡ false → HasNoFaults (found_thing x (Some t) n).0 → HasNoFaults n × IsShown (found_thing x (Some t) n).1
found_shown x thing.Faulty n is h = absurd (cc)
found_shown x _ n is h = (h, tt)

told_found : (x : Name) (t : Thing) (n : Notes) → OnlyTold n → OnlyTold (found_thing x (Some t) n).0
told_found x thing.Faulty n o = o
told_found x _ n o = o

pub found_reads : (natures : List ℕ) (x : Name) (o p : Option Thing) (c i : Notes) → AlikeFound natures o p
    → Reads (Part Thing) (Part Thing) IsShown c (found_thing x o c) i (found_thing x p i)
found_reads natures x None None c i h =
    reads_never (Part Thing) (Part Thing) IsShown c (found_thing x None c) i (found_thing x None i) (no_fault x.place (Unknown x.number) c)
found_reads natures x (Some t) (Some u) c i h =
    record {
      notes = record { before = λ g. (found_shown x t c h.whole g).0; told = λ g o. told_found x u i o };
      right = λ g. (found_shown x t c h.whole g).1;
    }
found_reads natures x (Some t) None c i h = absurd h
found_reads natures x None (Some u) c i h = absurd h

-- ---- subtypes

shown_bound : (v : Option Val) → IsShown (bound_value v)
shown_bound (Some (val.Int i)) = shown_where (Option ℕ) (int_le (pos 0) i && int_lt i (pos most_elements)) (Some (unsigned_abs i))
shown_bound (Some _) = tt
shown_bound None = tt

shown_index : (a : Asked) → IsShown (index_bound a)
shown_index a = go (same_kind a.kind (Of t.Integer))
  where
    go : (b : Bool) → IsShown (if b then bound_value a.value else Wrong)
    go true = shown_bound a.value
    go false = tt

shown_indexed : (d : Direction) (a b : Asked) → IsShown (indexed d a b)
shown_indexed d a b =
    shown_judged Subtype (Option Subtype) given_index (bounded d a b) (λ s. tt)
    (shown_both (Option ℕ) (Option ℕ) Subtype (λ left right. Kept (vector_of d left right)) (index_bound a) (index_bound b) (λ l r. tt) (shown_index a) (shown_index b))

shown_marked : (m : Thing) (o : Option Subtype) → IsShown (marked m o)
shown_marked thing.BitVector (Some s) = tt
shown_marked thing.BitVector None = tt
shown_marked (thing.Type s f) None = tt
shown_marked (thing.Type s f) (Some u) = tt
shown_marked _ o = tt

shown_range : (s : Subtype) (a b : Option Val) → IsShown (range_of s a b)
shown_range s (Some (val.Int a)) (Some (val.Int b)) =
    shown_where Subtype (int_lt b a || (holds s.constraint (val.Int a) && holds s.constraint (val.Int b))) _
shown_range s (Some (val.Real a)) (Some (val.Real b)) =
    shown_where Subtype (int_lt b a || (holds s.constraint (val.Real a) && holds s.constraint (val.Real b))) _
shown_range s (Some (val.Int a)) _ = tt
shown_range s (Some (val.Real a)) _ = tt
shown_range s (Some _) b = tt
shown_range s None b = tt

shown_narrowed : (s : Subtype) (a b : Asked) → IsShown (narrowed s a b)
shown_narrowed s a b = go (is_ranged s.kind && same_kind a.kind s.kind && same_kind b.kind s.kind)
  where
    go : (x : Bool) → IsShown (if x then range_of s a.value b.value else Wrong)
    go true = shown_range s a.value b.value
    go false = tt

shown_narrowed_by : (s : Part Subtype) (a b : Part Asked) → IsShown s → IsShown a → IsShown b → IsShown (narrowed_by s a b)
shown_narrowed_by (Kept s) a b h k l = shown_both Asked Asked Subtype (narrowed s) a b (shown_narrowed s) k l
shown_narrowed_by Wrong a b h k l = shown_both Asked Asked Subtype wrong_beside a b (λ x y. tt) k l
shown_narrowed_by Hidden a b h k l = h

module _ (natures : List ℕ) (a b : Scope) (alike : AlikeScopes natures a b) (texts : List (List ℕ)) where
  pub static_reads : (x : Expr) (c i : Notes) → Reads (Part Asked) (Part Asked) IsShown c (static_part texts a x c) i (static_part texts b x i)
  static_reads x c i = readings_follow.parts natures a b alike texts x c i

  index_reads : (r : Option Range) (c i : Notes) → Reads (Part (Option Subtype)) (Part (Option Subtype)) IsShown c (index_subtype texts a r c) i (index_subtype texts b r i)
  index_reads None c i = record { notes = follows_same c i; right = λ h. tt }
  index_reads (Some r) c i =
      let l = static_part texts a r.left c in
      let m = static_part texts b r.left i in
      let s = static_part texts a r.right l.0 in
      let u = static_part texts b r.right m.0 in
      let left : Reads (Part Asked) (Part Asked) IsShown c l i m = static_reads r.left c i in
      let right : Reads (Part Asked) (Part Asked) IsShown l.0 s m.0 u = static_reads r.right l.0 m.0 in
      record {
        notes = follows_on c l.0 s.0 i m.0 u.0 left.notes right.notes;
        right = λ h. shown_both Asked Asked (Option Subtype) (indexed r.direction) l.1 s.1 (shown_indexed r.direction) (left.right (right.notes.before h)) (right.right h);
      }

  bounds_reads : (r : Option Bounds) (p q : Part Subtype) (c i : Notes) (shown : HasNoFaults c → IsShown p)
      → Reads (Part Subtype) (Part Subtype) IsShown c (in_bounds texts a r p c) i (in_bounds texts b r q i)
  bounds_reads None p q c i shown = record { notes = follows_same c i; right = shown }
  bounds_reads (Some r) p q c i shown =
      let l = static_part texts a r.low c in
      let m = static_part texts b r.low i in
      let s = static_part texts a r.high l.0 in
      let u = static_part texts b r.high m.0 in
      let low : Reads (Part Asked) (Part Asked) IsShown c l i m = static_reads r.low c i in
      let high : Reads (Part Asked) (Part Asked) IsShown l.0 s m.0 u = static_reads r.high l.0 m.0 in
      record {
        notes = follows_on c l.0 s.0 i m.0 u.0 low.notes high.notes;
        right = λ h. shown_narrowed_by p l.1 s.1 (shown (low.notes.before (high.notes.before h))) (low.right (high.notes.before h)) (high.right h);
      }

  pub subtype_reads : (x : SubtypeIndication) (c i : Notes) → Reads (Part Subtype) (Part Subtype) IsShown c (subtype texts a x c) i (subtype texts b x i)
  subtype_reads x c i =
      let f = found_thing x.mark (lookup a x.mark.number) c in
      let g = found_thing x.mark (lookup b x.mark.number) i in
      let s = index_subtype texts a x.index f.0 in
      let u = index_subtype texts b x.index g.0 in
      let mark : Reads (Part Thing) (Part Thing) IsShown c f i g = found_reads natures x.mark (lookup a x.mark.number) (lookup b x.mark.number) c i (alike.seen x.mark.number) in
      let index : Reads (Part (Option Subtype)) (Part (Option Subtype)) IsShown f.0 s g.0 u = index_reads x.index f.0 g.0 in
      let v = in_bounds texts a x.bounds (both marked f.1 s.1) s.0 in
      let w = in_bounds texts b x.bounds (both marked g.1 u.1) u.0 in
      let whole : Reads (Part Subtype) (Part Subtype) IsShown s.0 v u.0 w =
      bounds_reads x.bounds (both marked f.1 s.1) (both marked g.1 u.1) s.0 u.0
      (λ h. shown_both Thing (Option Subtype) Subtype marked f.1 s.1 shown_marked (mark.right (index.notes.before h)) (index.right h)) in
      record {
        notes = follows_on c f.0 v.0 i g.0 w.0 mark.notes (follows_on f.0 s.0 v.0 g.0 u.0 w.0 index.notes whole.notes);
        right = whole.right;
      }

  -- ---- values

  shown_written : (s : Subtype) (v : Asked) → IsShown (written s v)
  shown_written s v = shown_where Valued (suits s v) (record { subtype = s; value = v.value })

  shown_default : (s : Subtype) → IsShown (default s)
  shown_default s = shown_where Valued (holds s.constraint (leftmost s)) (record { subtype = s; value = Some (leftmost s) })

  pub initial_reads : (p q : Part Subtype) (x : Option Expr) (c i : Notes) → (HasNoFaults c → IsShown p)
      → Reads (Part Valued) (Part Valued) IsShown c (initial texts a p x c) i (initial texts b q x i)
  initial_reads p q None c i shown = record { notes = follows_same c i; right = λ h. shown_judged Subtype Valued default p shown_default (shown h) }
  initial_reads p q (Some x) c i shown =
      let l = static_part texts a x c in
      let value : Reads (Part Asked) (Part Asked) IsShown c l i (static_part texts b x i) = static_reads x c i in
      record {
        notes = value.notes;
        right = λ h. shown_both Subtype Asked Valued written p l.1 shown_written (shown (value.notes.before h)) (value.right h);
      }

  pub valued_reads : (x : SubtypeIndication) (y : Option Expr) (c i : Notes) → Reads (Part Valued) (Part Valued) IsShown c (valued texts a x y c) i (valued texts b x y i)
  valued_reads x y c i =
      let s = subtype texts a x c in
      let u = subtype texts b x i in
      let first : Reads (Part Subtype) (Part Subtype) IsShown c s i u = subtype_reads x c i in
      let v = initial texts a s.1 y s.0 in
      let w = initial texts b u.1 y u.0 in
      let whole : Reads (Part Valued) (Part Valued) IsShown s.0 v u.0 w = initial_reads s.1 u.1 y s.0 u.0 first.right in
      record { notes = follows_on c s.0 v.0 i u.0 w.0 first.notes whole.notes; right = whole.right }

pub subtypes_follow : SubtypesFollow
subtypes_follow natures a b alike texts x c i = subtype_reads natures a b alike texts x c i

pub values_follow : ValuesFollow
values_follow natures a b alike texts x y c i = valued_reads natures a b alike texts x y c i
