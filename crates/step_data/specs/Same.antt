-- Whether two points, frames or tips agree, as a test that computes.
use Rattle.std.specs.Prelude.{Bool, true, false, ◌==◌, ◌&&◌, ℤ, List, [], ◌∷◌}
use Rattle.std.specs.Ordering.{int_eq}
use Rattle.ams_value.specs.declared.val.Val.{Val}
use Rattle.ams_value.specs.Values.{equals, same_truth}
use Rattle.step_data.specs.declared.tip.Tip.{Tip}

-- values of one type that are equal
abbrev pub same_value : Val → Val → Bool
same_value = equals

-- two lists agree, value by value
unfoldable pub all_same : {A : Type 0} → (A → A → Bool) → List A → List A → Bool
all_same same [] [] = true
all_same same [] (y ∷ ys) = false
all_same same (x ∷ xs) [] = false
all_same same (x ∷ xs) (y ∷ ys) = same x y && all_same same xs ys

abbrev pub same_point : List ℤ → List ℤ → Bool
same_point = all_same int_eq

abbrev pub same_frame : List Val → List Val → Bool
same_frame = all_same same_value

-- tips are compared whole
abbrev pub same_tip : Tip → Tip → Bool
same_tip a b = a.t == b.t && (a.h == b.h && (same_truth a.fresh b.fresh && same_point a.x b.x))
