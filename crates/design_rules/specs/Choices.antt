-- The choices of a case, sequential or simultaneous (IEEE 1076, 10.9).
use Rattle.std.specs.Prelude.{◌≤◌, ◌⊎◌, ◌≢◌, ℕ, Bool, IsTrue, List}
use Rattle.std.specs.List.{list_any, All, AllPairs, count_by}
use Rattle.ams_value.specs.declared.val.Val.{Val}
use Rattle.ams_value.specs.declared.value_type.ValueType.{ValueType}
use Rattle.ams_value.specs.declared.value_type.ValueType.TheVariants as kind
use Rattle.ams_value.specs.Values.{equals}
use Rattle.design_meaning.specs.Typed.{IsOfType}

-- the choices name each value of the type. No list names each integer, real or time
abbrev pub NamesAll : List ℕ → ValueType → List Val → Type 0
NamesAll sizes kind.Integer choices = ⊥
NamesAll sizes kind.Real choices = ⊥
NamesAll sizes kind.Time choices = ⊥
NamesAll sizes k choices = (v : Val) → IsOfType sizes k v → IsTrue (list_any (equals v) choices)

-- the values that all alternatives name, and whether each alternative has `others`
pub record AreChoices (sizes : List ℕ) (k : ValueType) (choices : List Val) (others : List Bool) : Type 0 where
  pub kinds : All (IsOfType sizes k) choices
  pub none_twice : AllPairs (λ a b. a ≢ b) choices
  pub others_once : count_by (λ b. b) others ≤ 1
  pub covers : IsTrue (list_any (λ b. b) others) ⊎ NamesAll sizes k choices
