-- What follows of a scope whose names stand for things of the final design.
use Rattle.std.proofs.Common.{◌≡◌, ◌<◌, ℕ, zero, suc, ◌+◌, nat_eq, Bool, true, false, ◌||◌, List, [], ◌∷◌, ◌++◌, length, get_or, map, Option, Some, None, IfSome, refl, sym, subst, arith}
use Rattle.std.specs.List.{All, slice_get, list_any}
use Rattle.std.proofs.lemmas.Bool.Decides.{nat_tests}
use Rattle.ams_tree.specs.declared.expression.Expr.{Expr}
use Rattle.ams_value.specs.declared.val.Val.{Val}
use Rattle.ams_value.specs.declared.value_type.ValueType.TheVariants.{Enumeration as EnumerationType}
use Rattle.flat_design.specs.declared.objects.Enumeration.{Enumeration}
use Rattle.flat_design.specs.declared.objects.Objects.{Objects}
use Rattle.flat_design.specs.declared.objects.Process.{Process}
use Rattle.name_scope.specs.declared.scope.Scope.{Scope}
use Rattle.name_scope.specs.declared.thing.Kind.{Kind}
use Rattle.name_scope.specs.declared.thing.Kind.TheVariants.{Of}
use Rattle.name_scope.specs.declared.thing.Thing.{Thing}
use Rattle.name_scope.specs.declared.thing.Thing.TheVariants as thing
use Rattle.name_scope.specs.Scopes.{lookup}
use Rattle.elab_meaning.specs.declared.fault.Notes.{Notes}
use Rattle.elab_meaning.specs.declared.part.Part.{Part}
use Rattle.elab_meaning.specs.declared.typed.Typed.{Typed}
use Rattle.elab_meaning.specs.Parts.{part_of}
use Rattle.unit_meaning.specs.Settings.{Setting, choosing, typed}
use Rattle.unit_meaning.specs.Cases.{literal_count}
use Rattle.elab_meaning.specs.Expressions.{expression}
use Rattle.design_rules.specs.Types.{sizes_of, equation_scope, IsVisible}
use Rattle.design_rules.specs.Design.{domain_type, IsProcess}
use Rattle.reading_laws.specs.Growing.{Extends}
use Rattle.typed_laws.specs.Fitting.{FitsValue, FitsThing}
use Rattle.part_laws.specs.Parts.{OnKept}
use Rattle.note_laws.specs.Noting.{IsNotable, NamesAreNotable}
use Rattle.scope_laws.specs.Holds.{ScopeHolds}
use Rattle.asked_laws.proofs.Asked.{asked_values_are_known}
use Rattle.choice_laws.specs.Choices.{AsksValues, CountsLiterals, CountsOf}
use Rattle.kind_laws.proofs.Counted.{kinds_are_counted}
use Rattle.checked_laws.specs.Checked.{HasDrivers}
use Rattle.driver_laws.specs.Driven.{Once}
use Rattle.site_invariant_laws.specs.Sites.{HasDomain}
use Rattle.site_invariant_laws.specs.Premises.{CasesStand, NamesCount}

-- ---- names are notable

module _ (final : Objects) where
  value_given : (k : Kind) (v : Option Val) → FitsValue (equation_scope final) k v → IfSome v (λ (x : Val). FitsValue (equation_scope final) k (Some x))
  value_given k (Some x) h = h
  value_given k None h = tt

  thing_notable : (Sees : ℕ → Type 0) (t : Thing) → FitsThing (equation_scope final) Sees t → IsNotable final t
  thing_notable Sees (thing.Quantity i c) h = h
  thing_notable Sees (thing.Constant s v) h = value_given s.kind v h
  thing_notable Sees (thing.Literal v) h = h
  thing_notable Sees (thing.Function f) h = h
  thing_notable Sees t h = tt

  some_notable : (Sees : ℕ → Type 0) (o : Option Thing) → IfSome o (FitsThing (equation_scope final) Sees) → IfSome o (IsNotable final)
  some_notable Sees (Some t) h = thing_notable Sees t h
  some_notable Sees None h = tt

  pub names_notable : (scope : Scope) → ScopeHolds (equation_scope final) [] [] scope → NamesAreNotable final scope
  names_notable scope h name = some_notable (IsVisible [] []) (lookup scope name) (h.fits name)

  -- ---- enumeration types

  counts_as : (types finals : List Enumeration) → Extends Enumeration (domain_type ∷ []) types → Extends Enumeration (domain_type ∷ []) finals
      → literal_count (slice_get types 0) ≡ get_or (map (λ (x : Enumeration). length x.literals) finals) 0 0
  counts_as types finals h k =
      subst (λ (l : List Enumeration). literal_count (slice_get l 0) ≡ get_or (map (λ (x : Enumeration). length x.literals) finals) 0 0) (sym h.whole)
      (subst (λ (l : List Enumeration). length domain_type.literals ≡ get_or (map (λ (x : Enumeration). length x.literals) l) 0 0) (sym k.whole) refl)

  pub domain_counts : (types : List Enumeration) → Extends Enumeration (domain_type ∷ []) types → HasDomain final → CountsLiterals types (sizes_of final) (Of (EnumerationType 0))
  domain_counts types h k = counts_as types final.enumerations h k

  counted_part : (types : List Enumeration) (o : Option Typed) → IfSome o (CountsOf types (sizes_of final)) → OnKept (CountsOf types (sizes_of final)) (part_of o)
  counted_part types (Some t) h = h
  counted_part types None h = tt

  pub cases_stand : (w : Setting) (scope : Scope) → CountsLiterals w.enumerations (sizes_of final) (Of (EnumerationType 0)) → ScopeHolds (equation_scope final) [] [] scope → NamesCount final w scope
      → CasesStand final w scope
  cases_stand w scope zero_counts h names =
      record {
        values = λ x c n none. asked_values_are_known.asked (equation_scope final) [] [] w.texts scope x c n h none;
        counts = λ x n.
            counted_part w.enumerations (expression w.texts scope x choosing n).1 (kinds_are_counted w.enumerations (sizes_of final) w.texts scope x choosing n zero_counts names);
      }

-- ---- drivers

itself : (x : ℕ) (b : Bool) → (nat_eq x x || b) ≡ true
itself x b = grind (arith, nat_tests)

one_more : (a b : Bool) → b ≡ true → (a || b) ≡ true
one_more true b h = refl
one_more false b h = h

member : (xs : List ℕ) (j d : ℕ) → j < length xs → list_any (nat_eq (get_or xs j d)) xs ≡ true
member [] j d lt = absurd (omega arith)
member (x ∷ xs) zero d lt = itself x (list_any (nat_eq x) xs)
member (x ∷ xs) (suc j) d lt = one_more (nat_eq (get_or xs j d) x) (list_any (nat_eq (get_or xs j d)) xs) (member xs j d (omega arith))

inside_of : {A : Type 0} (xs : List A) (i : ℕ) (x : A) → slice_get xs i ≡ Some x → i < length xs
inside_of [] i x h = absurd (cc)
inside_of (y ∷ ys) zero x h = omega arith
inside_of (y ∷ ys) (suc i) x h = let rest = inside_of ys i x h in omega arith

pub has_drivers : (final : Objects) (p : Process) → IsProcess final p → Once p.drivers → HasDrivers final p
has_drivers final p h once =
    record {
      signals = λ k d lt.
          let used = h.drivers (get_or p.drivers k d) (member p.drivers k d lt) in
          let allowed = h.statements used.0 used.1 used.2 _ used.6 in
          inside_of final.signals (get_or p.drivers k d) allowed.signal allowed.signal_is;
      once = once;
    }
