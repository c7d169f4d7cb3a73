-- The least time of a list is its earliest one.
use Rattle.std.proofs.Common.{◌≡◌, ℕ, zero, suc, ◌<◌, ◌≤◌, List, [], ◌∷◌, length, get_or, Some, refl, ap, ◌∙◌, arith}
use Rattle.std.specs.Prelude.{min, Option, None, IfSome}
use Rattle.std.specs.List.{All}
use Rattle.std.proofs.lemmas.List.Elements.{All-head, All-tail}
use Rattle.step_data.specs.Times.{earliest, earliest_of}
use Rattle.agenda.specs.Times.{IsLeast}

abbrev AtLeast : ℕ → Option ℕ → Type 0
AtLeast t time = IfSome time (λ u. t ≤ u)

min_from : (t u v : ℕ) → t ≤ u → t ≤ v → t ≤ min u v
min_from t u v h g = grind arith

both_from : (t : ℕ) (a b : Option ℕ) → AtLeast t a → AtLeast t b → AtLeast t (earliest a b)
both_from t None b h g = g
both_from t (Some u) None h g = h
both_from t (Some u) (Some v) h g = min_from t u v h g

earliest_from : (t : ℕ) (times : List (Option ℕ)) → All (AtLeast t) times → AtLeast t (earliest_of times)
earliest_from t [] all = tt
earliest_from t (a ∷ more) all =
    both_from t a (earliest_of more) (All-head (AtLeast t) a more all) (earliest_from t more (All-tail (AtLeast t) a more all))

pub earliest_none : (times : List (Option ℕ)) → All (λ time. time ≡ None) times → earliest_of times ≡ None
earliest_none [] all = refl
earliest_none (a ∷ more) all =
    ap (λ (x : Option ℕ). earliest x (earliest_of more)) (All-head (λ time. time ≡ None) a more all) ∙ earliest_none more (All-tail (λ time. time ≡ None) a more all)

-- the least stands first
min_first : (t u : ℕ) → t ≤ u → min t u ≡ t
min_first t u h = grind arith

min_last : (u t : ℕ) → t ≤ u → min u t ≡ t
min_last u t h = grind arith

first_least : (t : ℕ) (b : Option ℕ) → AtLeast t b → earliest (Some t) b ≡ Some t
first_least t None h = refl
first_least t (Some u) h = ap Some (min_first t u h)

later_least : (t : ℕ) (a b : Option ℕ) → AtLeast t a → b ≡ Some t → earliest a b ≡ Some t
later_least t None b h e = e
later_least t (Some u) b h e = ap (λ (x : Option ℕ). earliest (Some u) x) e ∙ ap Some (min_last u t h)

stands_earliest : (times : List (Option ℕ)) (t k : ℕ) → k < length times → get_or times k (Some t) ≡ Some t → All (AtLeast t) times → earliest_of times ≡ Some t
stands_earliest [] t k h e all = absurd (omega arith)
stands_earliest (a ∷ more) t zero h e all =
    ap (λ (x : Option ℕ). earliest x (earliest_of more)) e ∙ first_least t (earliest_of more) (earliest_from t more (All-tail (AtLeast t) a more all))
stands_earliest (a ∷ more) t (suc k) h e all =
    later_least t a (earliest_of more) (All-head (AtLeast t) a more all) (stands_earliest more t k (omega arith) e (All-tail (AtLeast t) a more all))

pub least_earliest : (times : List (Option ℕ)) (t : ℕ) → IsLeast t times → earliest_of times ≡ Some t
least_earliest times t l = stands_earliest times t l.pending.0 l.pending.1 l.pending.2 l.least
