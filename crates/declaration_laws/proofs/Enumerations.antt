-- Enumeration types.
use Rattle.std.proofs.Common.{◌≡◌, ◌<◌, ◌≤◌, ◌+◌, ℕ, Bool, true, false, if◌then◌else◌, List, [], ◌∷◌, ◌++◌, length, length-append, map, Some, None, refl, sym, ◌∙◌, subst, arith}
use Rattle.std.specs.Prelude.{nat_lt, nat_le, ◌&&◌, get_or}
use Rattle.std.specs.List.{list_all, slice_get, All}
use Rattle.std.proofs.lemmas.Bool.Decides.{nat_tests}
use Rattle.std.proofs.lemmas.List.{length-map}
use Rattle.std.proofs.lemmas.List.Elements.{All-nil, All-cons, All-push}
use Rattle.std.proofs.lemmas.Option.{get_or_from_slice_get}
use Rattle.ams_token.specs.declared.token.Place.{Place}
use Rattle.ams_tree.specs.declared.expression.Name.{Name}
use Rattle.ams_value.specs.declared.val.Val.TheVariants as val
use Rattle.ams_value.specs.declared.value_type.ValueType.TheVariants as t
use Rattle.flat_design.specs.declared.objects.Signal.{Signal}
use Rattle.flat_design.specs.declared.objects.Quantity.{Quantity}
use Rattle.flat_design.specs.declared.objects.Node.{Node}
use Rattle.flat_design.specs.declared.objects.Enumeration.{Enumeration}
use Rattle.flat_design.specs.declared.objects.Objects.{Objects}
use Rattle.name_scope.specs.declared.thing.Thing.TheVariants as thing
use Rattle.elab_meaning.specs.declared.book.Book.{Book}
use Rattle.elab_meaning.specs.declared.fault.Cause.TheVariants.{WrongType}
use Rattle.elab_meaning.specs.Notes.{noted, text_of}
use Rattle.elab_meaning.specs.Declarations.{declared, with_notes, each, faulty, is_enumeration, with_enumeration, literals_from, of_enumeration, enumeration}
use Rattle.design_rules.specs.Types.{sizes_of}
use Rattle.design_rules.specs.Design.{IsEnumeration, literal_limit, enumeration_limit}
use Rattle.reading_laws.proofs.Growing.{grows_same, grows_noted}
use Rattle.scope_laws.specs.Holds.{StandsBefore}
use Rattle.scope_laws.proofs.Scopes.{scopes_hold}
use Rattle.declaration_laws.specs.Books.{KeepsBook}
use Rattle.declaration_laws.proofs.Steps.{extends_same, extends_one, last_at, Keeps, keeps_same, keeps_on, given, book_on, declared_keeps, faulty_keeps, notes_keep, each_faulty}

and_left : (a b : Bool) → (a && b) ≡ true → a ≡ true
and_left true b h = refl
and_left false b h = absurd (cc)

and_right : (a b : Bool) → (a && b) ≡ true → b ≡ true
and_right true b h = h
and_right false b h = absurd (cc)

is_less : (m n : ℕ) → nat_lt m n ≡ true → m < n
is_less m n h = grind (arith, nat_tests)

less_is : (m n : ℕ) → m < n → nat_lt m n ≡ true
less_is m n h = grind (arith, nat_tests)

up_to : (m n : ℕ) → nat_le m n ≡ true → m ≤ n
up_to m n h = grind (arith, nat_tests)

-- ---- the type

abbrev texts_of : List (List ℕ) → List Name → List (List ℕ)
texts_of texts literals = map (λ (x : Name). text_of texts x.number) literals

short_texts : (texts : List (List ℕ)) (literals : List Name) → list_all (λ (x : Name). nat_le (length (text_of texts x.number)) 64) literals ≡ true
    → All (λ (name : List ℕ). length name ≤ literal_limit) (texts_of texts literals)
short_texts texts [] h = All-nil (λ (name : List ℕ). length name ≤ literal_limit)
short_texts texts (x ∷ more) h =
    let one = nat_le (length (text_of texts x.number)) 64 in
    let rest = list_all (λ (y : Name). nat_le (length (text_of texts y.number)) 64) more in
    All-cons (λ (name : List ℕ). length name ≤ literal_limit) (text_of texts x.number) (texts_of texts more) (up_to (length (text_of texts x.number)) 64 (and_left one rest h))
    (short_texts texts more (and_right one rest h))

module _ (final : Objects) (texts : List (List ℕ)) (literals : List Name) where
  abbrev new_type : Enumeration
  new_type = record { literals = texts_of texts literals }

  -- the tests of the type, and its size in the final design
  record IsNewType (b : Book) : Type 0 where
    tests : is_enumeration texts literals b ≡ true
    some : 0 < length literals

  is_right : (b : Book) → is_enumeration texts literals b ≡ true → IsEnumeration new_type
  is_right b h =
      let limit = nat_lt (length b.objects.enumerations) 65536 in
      let count = nat_le (length literals) 65536 in
      let short = list_all (λ (x : Name). nat_le (length (text_of texts x.number)) 64) literals in
      let rest = and_right limit (count && short) h in
      let few : length literals ≤ 65536 = up_to (length literals) 65536 (and_left count short rest) in
      let same : length (texts_of texts literals) ≡ length literals = length-map literals (λ (x : Name). text_of texts x.number) in
      record { count = omega arith; literals = short_texts texts literals (and_right count short rest) }

  few_types : (b : Book) → is_enumeration texts literals b ≡ true → length (b.objects.enumerations ++ new_type ∷ []) ≤ enumeration_limit
  few_types b h =
      let less : length b.objects.enumerations < 65536 =
      is_less (length b.objects.enumerations) 65536
      (and_left (nat_lt (length b.objects.enumerations) 65536)
      (nat_le (length literals) 65536 && list_all (λ (x : Name). nat_le (length (text_of texts x.number)) 64) literals) h) in
      let one : length (b.objects.enumerations ++ new_type ∷ []) ≡ length b.objects.enumerations + 1 = length-append b.objects.enumerations (new_type ∷ []) in
      omega arith

  added : (b : Book) → Keeps final (is_enumeration texts literals b ≡ true) b (with_enumeration texts literals b)
  added b =
      record {
        grows = grows_same b.notes;
        stands =
            record {
              enumerations = extends_one Enumeration b.objects.enumerations new_type;
              signals = extends_same Signal b.objects.signals;
              quantities = extends_same Quantity b.objects.quantities;
              nodes = extends_same Node b.objects.nodes;
            };
        leaves = record { equations = refl; dots = refl; thresholds = refl; processes = refl; instances = refl; ramps = refl };
        right = λ c f s h.
            record {
              scope = h.scope;
              objects =
                  record {
                    signals = h.objects.signals;
                    quantities = h.objects.quantities;
                    enumerations = All-push IsEnumeration b.objects.enumerations new_type h.objects.enumerations (is_right b c);
                    enumeration_count = few_types b c;
                  };
            };
      }

  -- ---- its literals

  -- the type of this number has as many literals as are written
  abbrev HasSize : ℕ → Type 0
  HasSize type = get_or (sizes_of final) type 0 ≡ length literals

  literals_keep : (type position : ℕ) (names : List Name) (b : Book) → position + length names ≤ length literals → Keeps final (HasSize type) b (literals_from type position names b)
  literals_keep type position [] b h = keeps_same final (HasSize type) b
  literals_keep type position (x ∷ more) b h =
      let mid = declared (thing.Literal (val.Enum type position)) x b in
      keeps_on final (HasSize type) b mid (literals_from type (position + 1) more mid)
      (declared_keeps final (HasSize type) (thing.Literal (val.Enum type position)) x b
      (λ c s. record { fits = subst (λ (k : ℕ). nat_lt position k ≡ true) (sym c) (less_is position (length literals) (omega arith)); also = tt }))
      (literals_keep type (position + 1) more mid (omega arith))

  size_is : (b : Book) → StandsBefore (with_enumeration texts literals b).objects final → HasSize (length b.objects.enumerations)
  size_is b s =
      let at : slice_get (sizes_of final) (length b.objects.enumerations) ≡ Some (length (texts_of texts literals)) =
      last_at Enumeration ℕ (λ (x : Enumeration). length x.literals) b.objects.enumerations new_type final.enumerations s.enumerations in
      get_or_from_slice_get (sizes_of final) (length b.objects.enumerations) (length (texts_of texts literals)) 0 at
      ∙ length-map literals (λ (x : Name). text_of texts x.number)

  -- ---- the whole

  type_keeps : (name : Name) (b : Book) → 0 < length literals → is_enumeration texts literals b ≡ true
      → KeepsBook final b (literals_from (length b.objects.enumerations) 0 literals (declared (thing.Type (of_enumeration (length b.objects.enumerations)) None) name (with_enumeration texts literals b)))
  type_keeps name b some is =
      let type = length b.objects.enumerations in
      let mid = with_enumeration texts literals b in
      let named = declared (thing.Type (of_enumeration type) None) name mid in
      let behind = literals_from type 0 literals named in
      let first = given final (is_enumeration texts literals b ≡ true) b mid (added b) is in
      let second =
      declared_keeps final (HasSize type) (thing.Type (of_enumeration type) None) name mid
      (λ c s.
      record { fits = tt; also = record { kind = t.Enumeration type; kind_is = refl; range = tt; values = subst (λ (k : ℕ). 0 < k) (sym c) some; indexed = tt } }) in
      let rest = keeps_on final (HasSize type) mid named behind second (literals_keep type 0 literals named (omega arith)) in
      book_on final b mid behind first
      (record {
        grows = rest.grows;
        stands = rest.stands;
        leaves = rest.leaves;
        right = λ f s h. rest.right (size_is b (scopes_hold.on mid.objects behind.objects final rest.stands s)) f s h;
      })

  wrong_keeps : (place : Place) (name : Name) (b : Book) → KeepsBook final b (each faulty literals (faulty name (with_notes (noted place WrongType b.notes) b)))
  wrong_keeps place name b =
      let start = with_notes (noted place WrongType b.notes) b in
      let mid = faulty name start in
      book_on final b start (each faulty literals mid) (notes_keep final (noted place WrongType b.notes) b (grows_noted place WrongType b.notes))
      (book_on final start mid (each faulty literals mid) (faulty_keeps final name start) (each_faulty final literals mid))

  pub enumeration_keeps : (place : Place) (name : Name) (b : Book) → 0 < length literals → KeepsBook final b (enumeration texts place name literals b)
  enumeration_keeps place name b some = go (is_enumeration texts literals b) refl
    where
      go : (c : Bool) → is_enumeration texts literals b ≡ c
          → KeepsBook final b
          (if c
          then literals_from (length b.objects.enumerations) 0 literals (declared (thing.Type (of_enumeration (length b.objects.enumerations)) None) name (with_enumeration texts literals b))
          else each faulty literals (faulty name (with_notes (noted place WrongType b.notes) b)))
      go true is = type_keeps name b some is
      go false is = wrong_keeps place name b
