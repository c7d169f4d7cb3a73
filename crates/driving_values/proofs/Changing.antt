-- One signal changes.
use Rattle.std.proofs.Common.{◌≡◌, ℕ, zero, suc, Bool, true, false, List, [], ◌∷◌, set, Some, refl, sym, ap, ◌∙◌}
use Rattle.std.specs.Prelude.{slice_get, not, if◌then◌else◌, Option, None, Result, Ok, Err, OnOk, OnErr}
use Rattle.std.specs.Option.{option_map}
use Rattle.std.specs.Bool.{MatchBool}
use Rattle.ams_value.specs.declared.val.Val.{Val}
use Rattle.ams_value.specs.Values.{equals}
use Rattle.ams_value.specs.Laws.{values_decide}
use Rattle.step_data.specs.declared.trans.Trans.{Trans}
use Rattle.design_meaning.specs.Readings.{Seen, still}
use Rattle.cycle_meaning.specs.Cycles.{changed, driving}
use Rattle.driving_values.specs.Driving.{seens}

pub set_both : (values : List Val) (events : List Bool) (i : ℕ) (v : Val) (b : Bool) → seens (set values i v) (set events i b) ≡ set (seens values events) i (record { value = v; event = b })
set_both [] events i v b = refl
set_both (x ∷ values) [] zero v b = refl
set_both (x ∷ values) [] (suc i) v b = refl
set_both (x ∷ values) (e ∷ events) zero v b = refl
set_both (x ∷ values) (e ∷ events) (suc i) v b = ap (λ l. record { value = x; event = e } ∷ l) (set_both values events i v b)

set_same : (events : List Bool) (i : ℕ) (b : Bool) → slice_get events i ≡ Some b → events ≡ set events i b
set_same [] i b h = refl
set_same (e ∷ events) zero b h = let same : e ≡ b = cc in ap (λ x. x ∷ events) same
set_same (e ∷ events) (suc i) b h = ap (λ l. e ∷ l) (set_same events i b h)

-- a value that stays gives no event
same_kept : (values : List Val) (i : ℕ) (v : Val) → slice_get values i ≡ Some v → values ≡ set values i v
same_kept [] i v h = refl
same_kept (x ∷ values) zero v h = let same : x ≡ v = cc in ap (λ y. y ∷ values) same
same_kept (x ∷ values) (suc i) v h = ap (λ l. x ∷ l) (same_kept values i v h)

not_equal : (a b : Val) → (a ≡ b → ⊥) → equals a b ≡ false
not_equal a b other = at (equals a b) refl
  where
    at : (c : Bool) → equals a b ≡ c → equals a b ≡ false
    at true e = absurd (other ((values_decide a b).0 e))
    at false e = e

-- whether a value changed is whether it has an event
pub is_event : (values : List Val) (i : ℕ) (v w : Val) (b : Bool) → MatchBool b (slice_get values i ≡ Some w → ⊥) (slice_get values i ≡ Some w) → slice_get values i ≡ Some v → (changed (still v) w).event ≡ b
is_event values i v w true h e = ap not (not_equal v w (λ same. h (e ∙ ap Some same)))
is_event values i v w false h e =
    let same : v ≡ w = cc in
    ap not ((values_decide v w).1 same)

pub both_set : (values values' : List Val) (events events' : List Bool) (i : ℕ) (v w : Val) (b : Bool)
    → MatchBool b (slice_get values i ≡ Some w → ⊥) (slice_get values i ≡ Some w) → values' ≡ set values i w → events' ≡ (if b then set events i true else events)
    → slice_get events i ≡ Some false → slice_get values i ≡ Some v → seens values' events' ≡ set (seens values events) i (changed (still v) w)
both_set values values' events events' i v w true h ev ee quiet e =
    let event : (changed (still v) w).event ≡ true = is_event values i v w true h e in
    rw (ev, ee) (set_both values events i w true ∙ ap (λ (x : Bool). set (seens values events) i (record { value = w; event = x })) (sym event))
both_set values values' events events' i v w false h ev ee quiet e =
    let event : (changed (still v) w).event ≡ false = is_event values i v w false h e in
    rw (ev, ee) (ap (seens (set values i w)) (set_same events i false quiet) ∙ set_both values events i w false ∙ ap (λ (x : Bool). set (seens values events) i (record { value = w; event = x })) (sym event))

-- ---- answers

pub on_ok : {A E : Type 0} (r : Result A E) (P : Type 0) → P → OnOk r P
on_ok (Ok a) P h = h
on_ok (Err e) P h = tt

pub on_err : {A E : Type 0} (r : Result A E) (P : Type 0) → P → OnErr r P
on_err (Ok a) P h = tt
on_err (Err e) P h = h

pub ok_so : {A E : Type 0} (r : Result A E) (P Q : Type 0) → (P → Q) → OnOk r P → OnOk r Q
ok_so (Ok a) P Q f h = f h
ok_so (Err e) P Q f h = tt

pub driving_is : (s : Seen) (o : Option Trans) (w : Val) → option_map (λ (x : Trans). x.value) o ≡ Some w → driving s o ≡ changed s w
driving_is s None w h = cc
driving_is s (Some x) w h = let same : x.value ≡ w = cc in ap (changed s) same
