-- How many equations a design has.
use Rattle.std.proofs.Common.{◌≡◌, ℕ, ◌+◌, List, [], ◌∷◌, ◌++◌, length, map, refl, ◌∙◌, arith, length-append}
use Rattle.std.specs.List.{range_with_len, All}
use Rattle.std.proofs.lemmas.List.Elements.{All-head, All-tail}
use Rattle.std.proofs.lemmas.List.FromFn.{length-map-range_with_len}
use Rattle.std.proofs.lemmas.List.Sums.{sum_by-cons}
use Rattle.flat_design.specs.Order.{size_of, explicit_of, explicit_from, across_of, across_from, unknown_count, equation_names}
use Rattle.flat_design.specs.declared.objects.Equation.{Equation}
use Rattle.flat_design.specs.declared.objects.Instance.{Instance}
use Rattle.flat_design.specs.declared.objects.Objects.{Objects}
use Rattle.flat_design.specs.declared.objects.Quantity.{Quantity}
use Rattle.flat_design.specs.declared.objects.QuantityKind.{QuantityKind}
use Rattle.flat_design.specs.declared.objects.QuantityKind.TheVariants as kind
use Rattle.flat_design.specs.declared.names.EquationName.TheVariants.{Explicit, Sum, Augmentation}
use Rattle.design_rules.specs.Design.{IsSolvable}
use Rattle.tally_laws.specs.Tally.{counted_kind, quantity_sum, size_sum, equation_sum, unknown_sum, IsTallied}

-- ---- instances

solvable_sums : (all : List Instance) → All IsSolvable all → equation_sum all ≡ unknown_sum all
solvable_sums [] h = refl
solvable_sums (x ∷ more) h =
    let here : x.equations ≡ x.unknowns = All-head IsSolvable x more h in
    let rest = solvable_sums more (All-tail IsSolvable x more h) in
    omega (arith, here, rest, sum_by-cons (λ (i : Instance). i.equations) x more, sum_by-cons (λ (i : Instance). i.unknowns) x more)

-- ---- names

explicit_long : (k : ℕ) (xs : List Equation) → length (explicit_from k xs) ≡ size_sum xs
explicit_long k [] = refl
explicit_long k (x ∷ xs) =
    length-append (explicit_of k x) (explicit_from (k + 1) xs)
    ∙ omega (arith, length-map-range_with_len (Explicit k) 0 (size_of x), explicit_long (k + 1) xs, sum_by-cons size_of x xs)

one_across : (k : ℕ) (q : QuantityKind) → length (across_of k q) + counted_kind q ≡ 1
one_across k (kind.Across plus minus) = refl
one_across k (kind.Through plus minus) = refl
one_across k kind.Free = refl

across_long : (k : ℕ) (qs : List Quantity) → length (across_from k qs) + quantity_sum qs ≡ length qs
across_long k [] = refl
across_long k (q ∷ qs) =
    omega (arith, length-append (across_of k q.kind) (across_from (k + 1) qs), one_across k q.kind, across_long (k + 1) qs, sum_by-cons (λ (x : Quantity). counted_kind x.kind) q qs)

names_long : (o : Objects) → length (equation_names o) ≡ size_sum o.equations + (length o.nodes + (length (across_from 0 o.quantities) + length o.dots))
names_long o =
    let sums = map Sum (range_with_len 0 (length o.nodes)) in
    let dots = map Augmentation (range_with_len 0 (length o.dots)) in
    let across = across_from 0 o.quantities in
    let explicit = explicit_from 0 o.equations in
    let named : length (equation_names o) ≡ length (((explicit ++ sums) ++ across) ++ dots) = refl in
    let all : length (((explicit ++ sums) ++ across) ++ dots) ≡ length ((explicit ++ sums) ++ across) + length dots = length-append ((explicit ++ sums) ++ across) dots in
    let some : length ((explicit ++ sums) ++ across) ≡ length (explicit ++ sums) + length across = length-append (explicit ++ sums) across in
    let first : length (explicit ++ sums) ≡ length explicit + length sums = length-append explicit sums in
    omega (
      arith,
      named,
      all,
      some,
      first,
      explicit_long 0 o.equations,
      length-map-range_with_len Sum 0 (length o.nodes),
      length-map-range_with_len Augmentation 0 (length o.dots),
    )

pub as_many : (o : Objects) → IsTallied o → All IsSolvable o.instances → length (equation_names o) ≡ unknown_count o
as_many o t h = omega (arith, names_long o, across_long 0 o.quantities, t.equations, t.unknowns, solvable_sums o.instances h)
