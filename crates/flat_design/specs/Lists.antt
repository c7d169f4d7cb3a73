-- The lists of objects, and the numbers that their members get.
use Rattle.std.specs.Prelude.{ℕ, Bool, ◌&&◌, List, [], ◌∷◌, ◌++◌, length, map, position, unwrap_or, nat_eq, if◌then◌else◌}
use Rattle.std.specs.Ordering.{int_eq}
use Rattle.flat_design.specs.declared.objects.Objects.{Objects}
use Rattle.flat_design.specs.declared.objects.Threshold.{Threshold}

abbrev pub no_objects : Objects
no_objects =
    record {
      signals = [];
      quantities = [];
      nodes = [];
      equations = [];
      dots = [];
      thresholds = [];
      processes = [];
      instances = [];
      enumerations = [];
      ramps = [];
    }

-- a member's number: that of the first one like it, or the number that a new one would get
abbrev pub number_in : {A : Type 0} → (A → Bool) → List A → ℕ
number_in same xs = unwrap_or (position same xs) (length xs)

-- the list with this member, which is added behind the others where none like it is there
abbrev pub with_member : {A : Type 0} → (A → Bool) → A → List A → List A
with_member same x xs = if nat_eq (number_in same xs) (length xs) then xs ++ x ∷ [] else xs

-- the dots are numbered by the first appearance of their quantities
abbrev pub number_of_dot : ℕ → List ℕ → ℕ
number_of_dot quantity dots = number_in (λ other. nat_eq other quantity) dots

abbrev pub with_dot : ℕ → List ℕ → List ℕ
with_dot quantity dots = with_member (λ other. nat_eq other quantity) quantity dots

-- thresholds with the same quantity and level are one
abbrev pub same_threshold : Threshold → Threshold → Bool
same_threshold a b = nat_eq a.quantity b.quantity && int_eq a.level b.level

abbrev pub number_of_threshold : Threshold → List Threshold → ℕ
number_of_threshold t thresholds = number_in (λ other. same_threshold other t) thresholds

abbrev pub with_threshold : Threshold → List Threshold → List Threshold
with_threshold t thresholds = with_member (λ other. same_threshold other t) t thresholds

-- how many literals each enumeration type has
abbrev pub enumeration_sizes : Objects → List ℕ
enumeration_sizes objects = map (λ e. length e.literals) objects.enumerations
