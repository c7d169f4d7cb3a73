-- The predefined names, beside themselves.
use Rattle.std.proofs.Common.{◌≡◌, ◌<◌, ℕ, arith, Bool, true, false, if◌then◌else◌, List, [], ◌∷◌, length, Option, Some, None, IfSome, refl, sym, subst}
use Rattle.std.specs.Prelude.{nat_eq, ◌&&◌, position}
use Rattle.std.specs.List.{fold, list_all}
use Rattle.std.specs.Str.{bytes_eq}
use Rattle.std.proofs.lemmas.Bool.Decides.{nat_tests}
use Rattle.name_scope.specs.declared.thing.Thing.{Thing}
use Rattle.name_scope.specs.declared.thing.Thing.TheVariants as thing
use Rattle.name_scope.specs.Scopes.{Region, declared_in, visible}
use Rattle.unit_meaning.specs.Units.{predefined, with_numbered, with_predefined, start_of}
use Rattle.alike_laws.specs.Alike.{is_label, at_instance, AlikeThing, AlikeFound, AlikeScopes}
use Rattle.alike_laws.proofs.Scopes.{with_each, visible_is}

-- a thing that is no broken one; of natures only that outside of all units
abbrev is_plain : Thing → Bool
is_plain thing.Faulty = false
is_plain (thing.Terminal end m) = nat_eq m 0
is_plain (thing.Nature m) = nat_eq m 0
is_plain _ = true

zero : (m : ℕ) → nat_eq m 0 ≡ true → m ≡ 0
zero m h = grind (arith, nat_tests)

module _ (natures : List ℕ) (some : 0 < length natures) (outside : at_instance natures 0 ≡ 0) where
  numbered : (m : ℕ) → nat_eq m 0 ≡ true → m < length natures
  numbered m h = subst (λ (n : ℕ). n < length natures) (sym (zero m h)) some

  same : (m : ℕ) → nat_eq m 0 ≡ true → m ≡ at_instance natures m
  same m h = subst (λ (n : ℕ). n ≡ at_instance natures n) (sym (zero m h)) (sym outside)

  alike_self : (t : Thing) → is_plain t ≡ true → AlikeThing natures t t
  alike_self thing.Faulty h = absurd (cc)
  alike_self (thing.Terminal end m) h = record { whole = refl; label = refl; changing = λ g. g; terminal_known = numbered m h; terminal = same m h; nature_known = tt; nature = tt }
  alike_self (thing.Nature m) h = record { whole = refl; label = refl; changing = λ g. g; terminal_known = tt; terminal = tt; nature_known = numbered m h; nature = same m h }
  alike_self _ h = record { whole = refl; label = refl; changing = λ g. g; terminal_known = tt; terminal = tt; nature_known = tt; nature = tt }

  abbrev IsPlain : Option Thing → Type 0
  IsPlain o = IfSome o (λ (t : Thing). is_plain t ≡ true)

  abbrev EachPlain : Region → Type 0
  EachPlain region = (x : ℕ) → IsPlain (declared_in region x)

  with_number : (o : Option ℕ) (t : Thing) (region : Region) → EachPlain region → is_plain t ≡ true → EachPlain (with_numbered o t region)
  with_number (Some name) t region h g x = with_each IsPlain region name t x (h x) g
  with_number None t region h g x = h x

  front : (a b : Bool) → (a && b) ≡ true → a ≡ true
  front true b h = refl
  front false b h = absurd (cc)

  rest : (a b : Bool) → (a && b) ≡ true → b ≡ true
  rest true b h = h
  rest false b h = absurd (cc)

  with_all : (texts : List (List ℕ)) (all : List (List ℕ × Thing)) (region : Region) → EachPlain region → list_all (λ (p : List ℕ × Thing). is_plain p.1) all ≡ true → EachPlain (fold (with_predefined texts) region all)
  with_all texts [] region h g = h
  with_all texts (p ∷ more) region h g =
      with_all texts more (with_predefined texts region p)
      (with_number (position (bytes_eq p.0) texts) p.1 region h (front (is_plain p.1) (list_all (λ (p : List ℕ × Thing). is_plain p.1) more) g))
      (rest (is_plain p.1) (list_all (λ (p : List ℕ × Thing). is_plain p.1) more) g)

  seen : (o : Option Thing) → IsPlain o → AlikeFound natures (visible o) (visible o)
  seen None h = tt
  seen (Some t) h = subst (λ (o : Option Thing). AlikeFound natures o o) (sym (visible_is t)) (go (is_label t))
    where
      go : (b : Bool) → AlikeFound natures (if b then None else Some t) (if b then None else Some t)
      go true = tt
      go false = alike_self t h

  pub start_alike : (texts : List (List ℕ)) → AlikeScopes natures (start_of texts) (start_of texts)
  start_alike texts =
      record {
        seen = λ x. seen (declared_in (fold (with_predefined texts) [] predefined) x) (with_all texts predefined [] (λ y. tt) refl x);
        inner = λ x. tt;
        outside = outside;
      }
