-- Branches between terminals, natures and enumeration types.
use Rattle.std.proofs.Common.{◌≡◌, ℕ, Bool, true, false, if◌then◌else◌, List, Option, Some, None, refl, sym, subst, ap, ◌∙◌, arith}
use Rattle.std.specs.Prelude.{nat_eq}
use Rattle.std.proofs.lemmas.Bool.Decides.{nat_tests}
use Rattle.ams_token.specs.declared.token.Place.{Place}
use Rattle.ams_tree.specs.declared.expression.Name.{Name}
use Rattle.flat_design.specs.declared.objects.Terminal.{Terminal}
use Rattle.name_scope.specs.declared.thing.Thing.{Thing}
use Rattle.name_scope.specs.declared.thing.Thing.TheVariants as thing
use Rattle.name_scope.specs.Scopes.{lookup}
use Rattle.elab_meaning.specs.declared.book.Book.{Book}
use Rattle.elab_meaning.specs.declared.fault.Cause.TheVariants.{NatureMismatch}
use Rattle.elab_meaning.specs.declared.fault.Notes.{Notes}
use Rattle.elab_meaning.specs.declared.part.Part.{Part}
use Rattle.elab_meaning.specs.declared.part.Part.TheVariants.{Kept, Wrong, Hidden}
use Rattle.elab_meaning.specs.Notes.{noted}
use Rattle.elab_meaning.specs.Parts.{judged, found_thing}
use Rattle.elab_meaning.specs.Declarations.{terminal_of, terminal_named, matched_ends, ends, to_reference, branch}
use Rattle.alike_laws.specs.Alike.{HasNoFaults, OnlyTold, Reads, IsShown, terminal_nature, at_instance, SameNature, AlikeFound, AlikeScopes}
use Rattle.alike_laws.proofs.Notes.{no_fault}
use Rattle.alike_books.proofs.Parts.{shown_judged, shown_both, found_reads}

equal_of : (m k : ℕ) → nat_eq m k ≡ true → m ≡ k
equal_of m k h = grind (arith, nat_tests)

equal_is : (m k : ℕ) → m ≡ k → nat_eq m k ≡ true
equal_is m k h = grind (arith, nat_tests)

-- ---- the natures of two ends

abbrev nature_at_end : Part (Terminal × ℕ) → Option ℕ
nature_at_end (Kept p) = Some p.1
nature_at_end _ = None

abbrev nature_in : Option Thing → Option ℕ
nature_in (Some t) = terminal_nature t
nature_in None = None

end_is_of : (x : Name) (t : Thing) (n : Notes) → nature_at_end (judged terminal_of (found_thing x (Some t) n).1) ≡ terminal_nature t
end_is_of x (thing.Terminal end m) n = refl
end_is_of x thing.Faulty n = refl
end_is_of x _ n = refl

end_is : (x : Name) (o : Option Thing) (n : Notes) → nature_at_end (judged terminal_of (found_thing x o n).1) ≡ nature_in o
end_is x (Some t) n = end_is_of x t n
end_is x None n = refl

shown_end : (t : Thing) → IsShown (terminal_of t)
shown_end (thing.Terminal end m) = tt
shown_end _ = tt

shown_reference : (p : Terminal × ℕ) → IsShown (to_reference p)
shown_reference p = tt

shown_ends : (p q : Terminal × ℕ) → IsShown (ends p q)
shown_ends p q = tt

-- two natures of the check that are one are one at the instance
abbrev OneNature : Option ℕ → Option ℕ → Type 0
OneNature (Some m) (Some n) = m ≡ n
OneNature o p = Unit {0}

told_ends : (place : Place) (p m : Part (Terminal × ℕ)) (n : Notes) → OneNature (nature_at_end p) (nature_at_end m) → OnlyTold n → OnlyTold (matched_ends place p m n)
told_ends place (Kept p) (Kept m) n h o = subst (λ (b : Bool). OnlyTold (if b then n else noted place NatureMismatch n)) (sym (equal_is p.1 m.1 h)) o
told_ends place (Kept p) Wrong n h o = o
told_ends place (Kept p) Hidden n h o = o
told_ends place Wrong m n h o = o
told_ends place Hidden m n h o = o

one_of : (place : Place) (p m : Part (Terminal × ℕ)) (n : Notes) → HasNoFaults (matched_ends place p m n) → OneNature (nature_at_end p) (nature_at_end m)
one_of place (Kept p) (Kept m) n h = equal_of p.1 m.1 (go (nat_eq p.1 m.1) h)
  where
    go : (b : Bool) → HasNoFaults (if b then n else noted place NatureMismatch n) → b ≡ true
    go true h = refl
    go false h = absurd (no_fault place NatureMismatch n h)
one_of place (Kept p) Wrong n h = tt
one_of place (Kept p) Hidden n h = tt
one_of place Wrong m n h = tt
one_of place Hidden m n h = tt

ends_clean : (place : Place) (p m : Part (Terminal × ℕ)) (n : Notes) → HasNoFaults (matched_ends place p m n) → HasNoFaults n
ends_clean place (Kept p) (Kept m) n h = go (nat_eq p.1 m.1) h
  where
    go : (b : Bool) → HasNoFaults (if b then n else noted place NatureMismatch n) → HasNoFaults n
    go true h = h
    go false h = absurd (no_fault place NatureMismatch n h)
ends_clean place (Kept p) Wrong n h = h
ends_clean place (Kept p) Hidden n h = h
ends_clean place Wrong m n h = h
ends_clean place Hidden m n h = h

module _ (natures : List ℕ) where
  same_in : (o p : Option Thing) → AlikeFound natures o p → SameNature natures (nature_in o) (nature_in p)
  same_in (Some t) (Some u) h = h.terminal
  same_in None None h = tt
  same_in (Some t) None h = absurd h
  same_in None (Some u) h = absurd h

  one_more : (o p q r : Option ℕ) → SameNature natures o p → SameNature natures q r → OneNature o q → OneNature p r
  one_more (Some m) (Some n) (Some k) (Some l) h g one = h ∙ ap (at_instance natures) one ∙ sym g
  one_more (Some m) (Some n) None (Some l) h g one = absurd g
  one_more None (Some n) q (Some l) h g one = absurd h
  one_more o (Some n) q None h g one = tt
  one_more o None q r h g one = tt

  module _ (c i : Book) (alike : AlikeScopes natures c.scope i.scope) where
    end_reads : (x : Name) (m n : Notes) → Reads (Part (Terminal × ℕ)) (Part (Terminal × ℕ)) IsShown m (terminal_named x c m) n (terminal_named x i n)
    end_reads x m n =
        let r = found_reads natures x (lookup c.scope x.number) (lookup i.scope x.number) m n (alike.seen x.number) in
        record {
          notes = r.notes;
          right = λ h. shown_judged Thing (Terminal × ℕ) terminal_of (found_thing x (lookup c.scope x.number) m).1 shown_end (r.right h);
        }

    same_end : (x : Name) (m n : Notes) → SameNature natures (nature_at_end (terminal_named x c m).1) (nature_at_end (terminal_named x i n).1)
    same_end x m n =
        subst (λ (o : Option ℕ). SameNature natures o (nature_at_end (terminal_named x i n).1)) (sym (end_is x (lookup c.scope x.number) m))
        (subst (λ (o : Option ℕ). SameNature natures (nature_in (lookup c.scope x.number)) o) (sym (end_is x (lookup i.scope x.number) n))
        (same_in (lookup c.scope x.number) (lookup i.scope x.number) (alike.seen x.number)))

    pub branch_reads : (plus : Name) (minus : Option Name) → Reads (Part (Terminal × Terminal)) (Part (Terminal × Terminal)) IsShown c.notes (branch plus minus c) i.notes (branch plus minus i)
    branch_reads plus None =
        let r = end_reads plus c.notes i.notes in
        record {
          notes = r.notes;
          right = λ h. shown_judged (Terminal × ℕ) (Terminal × Terminal) to_reference (terminal_named plus c c.notes).1 shown_reference (r.right h);
        }
    branch_reads plus (Some minus) =
        let p = terminal_named plus c c.notes in
        let m = terminal_named minus c p.0 in
        let q = terminal_named plus i i.notes in
        let s = terminal_named minus i q.0 in
        let first = end_reads plus c.notes i.notes in
        let second = end_reads minus p.0 q.0 in
        record {
          notes =
              record {
                before = λ h. first.notes.before (second.notes.before (ends_clean minus.place p.1 m.1 m.0 h));
                told = λ h o.
                    let on = ends_clean minus.place p.1 m.1 m.0 h in
                    told_ends minus.place q.1 s.1 s.0
                    (one_more (nature_at_end p.1) (nature_at_end q.1) (nature_at_end m.1) (nature_at_end s.1) (same_end plus c.notes i.notes) (same_end minus p.0 q.0) (one_of minus.place p.1 m.1 m.0 h))
                    (second.notes.told on (first.notes.told (second.notes.before on) o));
              };
          right = λ h.
              let on = ends_clean minus.place p.1 m.1 m.0 h in
              shown_both (Terminal × ℕ) (Terminal × ℕ) (Terminal × Terminal) ends p.1 m.1 shown_ends (first.right (second.notes.before on)) (second.right on);
        }
