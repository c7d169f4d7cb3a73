-- The number order of unknowns and equations.
use Rattle.std.specs.Prelude.{◌≡◌, ℕ, ◌+◌, ◌-◌, ◌<◌, Bool, nat_lt, IsTrue, if◌then◌else◌, List, [], ◌∷◌, ◌++◌, length, map, codes, Option, Some, None}
use Rattle.std.specs.List.{range_with_len, slice_get}
use Rattle.flat_expr.specs.declared.expr.Unknown.{Unknown}
use Rattle.flat_expr.specs.declared.expr.Unknown.TheVariants.{Quantity, Reference, Dot}
use Rattle.flat_design.specs.declared.objects.QuantityKind.{QuantityKind}
use Rattle.flat_design.specs.declared.objects.QuantityKind.TheVariants as kind
use Rattle.flat_design.specs.declared.objects.Quantity.{Quantity as QuantityObject}
use Rattle.flat_design.specs.declared.objects.Node.{Node}
use Rattle.flat_design.specs.declared.objects.Equation.{Equation}
use Rattle.flat_design.specs.declared.objects.Equation.TheVariants as equation
use Rattle.flat_design.specs.declared.objects.Objects.{Objects}
use Rattle.flat_design.specs.declared.names.EquationName.{EquationName}
use Rattle.flat_design.specs.declared.names.EquationName.TheVariants.{Explicit, Sum, Across, Augmentation}

-- the unknowns in order: the quantities, the reference quantity of each node, and the dots
abbrev pub unknowns : Objects → List Unknown
unknowns objects =
    map Quantity (range_with_len 0 (length objects.quantities))
    ++ map Reference (range_with_len 0 (length objects.nodes))
    ++ map Dot (range_with_len 0 (length objects.dots))

-- the number of an unknown in that order
abbrev pub number_of : Objects → Unknown → ℕ
number_of objects (Quantity i) = i
number_of objects (Reference i) = length objects.quantities + i
number_of objects (Dot i) = length objects.quantities + length objects.nodes + i

-- there is such an unknown
abbrev pub is_unknown : Objects → Unknown → Bool
is_unknown objects (Quantity i) = nat_lt i (length objects.quantities)
is_unknown objects (Reference i) = nat_lt i (length objects.nodes)
is_unknown objects (Dot i) = nat_lt i (length objects.dots)

abbrev pub unknown_count : Objects → ℕ
unknown_count objects = length objects.quantities + length objects.nodes + length objects.dots

-- the unknown of a number
abbrev pub unknown_at : Objects → ℕ → Unknown
unknown_at objects n =
    if nat_lt n (length objects.quantities) then Quantity n
    else (if nat_lt n (length objects.quantities + length objects.nodes) then Reference (n - length objects.quantities)
    else Dot (n - length objects.quantities - length objects.nodes))

-- the numbers of unknowns are their places in the order, and each number below the count is that of the unknown at it
pub record NumbersFindUnknowns : Type 0 where
  pub count : (objects : Objects) → length (unknowns objects) ≡ unknown_count objects
  pub placed : (objects : Objects) (u : Unknown) → IsTrue (is_unknown objects u) → slice_get (unknowns objects) (number_of objects u) ≡ Some u
  pub found : (objects : Objects) (n : ℕ) → n < unknown_count objects → number_of objects (unknown_at objects n) ≡ n
  pub known : (objects : Objects) (n : ℕ) → n < unknown_count objects → IsTrue (is_unknown objects (unknown_at objects n))

abbrev pub path_of_quantity : Option QuantityObject → List ℕ
path_of_quantity (Some q) = q.path
path_of_quantity None = []

abbrev pub path_of_node : Option Node → List ℕ
path_of_node (Some n) = n.path
path_of_node None = []

abbrev pub quantity_path : Objects → ℕ → List ℕ
quantity_path objects i = path_of_quantity (slice_get objects.quantities i)

abbrev pub dot_path : Objects → Option ℕ → List ℕ
dot_path objects (Some i) = quantity_path objects i
dot_path objects None = []

-- the name of an unknown: a path, with 'reference behind that of a node, and 'dot behind that of a dot's quantity
abbrev pub unknown_name : Objects → Unknown → List ℕ
unknown_name objects (Quantity i) = quantity_path objects i
unknown_name objects (Reference i) = path_of_node (slice_get objects.nodes i) ++ codes "'reference"
unknown_name objects (Dot k) = dot_path objects (slice_get objects.dots k) ++ codes "'dot"

-- how many equations an explicit one gives: one, or as many as a branch of the choice has
abbrev pub size_of : Equation → ℕ
size_of (equation.Pair p) = 1
size_of (equation.Choice c) = c.size

-- a name for each of them
abbrev pub explicit_of : ℕ → Equation → List EquationName
explicit_of k x = map (Explicit k) (range_with_len 0 (size_of x))

abbrev pub explicit_from : ℕ → List Equation → List EquationName
explicit_from k [] = []
explicit_from k (x ∷ xs) = explicit_of k x ++ explicit_from (k + 1) xs

abbrev pub across_of : ℕ → QuantityKind → List EquationName
across_of k (kind.Across plus minus) = Across k ∷ []
across_of k _ = []

abbrev pub across_from : ℕ → List QuantityObject → List EquationName
across_from k [] = []
across_from k (q ∷ qs) = across_of k q.kind ++ across_from (k + 1) qs

-- the equations in order: the explicit ones, a sum for each node, one for each across quantity, one for each dot
abbrev pub equation_names : Objects → List EquationName
equation_names objects =
    explicit_from 0 objects.equations
    ++ map Sum (range_with_len 0 (length objects.nodes))
    ++ across_from 0 objects.quantities
    ++ map Augmentation (range_with_len 0 (length objects.dots))
