-- Which values stand in an index.
use Rattle.std.specs.Prelude.{◌≡◌, nat_eq, Bool, ◌&&◌, if◌then◌else◌, List}
use Rattle.std.specs.List.{list_any}
use Rattle.std.specs.Ordering.{int_eq}
use Rattle.ams_value.specs.declared.val.Val.{Val}
use Rattle.ams_value.specs.declared.val.Val.TheVariants as v
use Rattle.ams_value.specs.Values.{equals}
use Rattle.value_list.specs.declared.truths.Truths.{Truths}
use Rattle.value_list.specs.declared.index.ValueIndex.{ValueIndex}

abbrev pub truth_in : Truths → Bool → Bool
truth_in t b = if b then t.has_true else t.has_false

abbrev pub holds : ValueIndex → Val → Bool
holds x (v.Bool b) = truth_in x.booleans b
holds x (v.Bit b) = truth_in x.bits b
holds x (v.Int i) = list_any (int_eq i) x.integers.keys
holds x (v.Real r) = list_any (int_eq r) x.reals.keys
holds x (v.Time t) = list_any (int_eq t) x.times.keys
holds x (v.Enum t p) = list_any (λ k. nat_eq t k.0 && nat_eq p k.1) x.literals.keys
holds x (v.Bits m a) = list_any (λ k. nat_eq m k.0 && nat_eq a k.1) x.vectors.keys

-- the index has the values of the list
pub record IsIndexOf (all : List Val) (x : ValueIndex) : Type 0 where
  pub same : (value : Val) → holds x value ≡ list_any (equals value) all
