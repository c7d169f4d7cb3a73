-- What holds of each old and each new transaction holds of each pending one.
use Rattle.std.proofs.Common.{◌≡◌, ◌≤◌, refl, subst, ℕ, zero, suc, ◌+◌, Bool, true, false, if◌then◌else◌, ℤ, pos, negsuc, List, [], ◌∷◌, Option, Some, Result, Ok, Err, arith}
use Rattle.std.specs.Prelude.{nat_le, not}
use Rattle.std.specs.List.{All, slice_index_or, filter}
use Rattle.std.proofs.lemmas.List.Elements.{All-nil, All-cons, All-head, All-tail, All-append, All-filter}
use Rattle.message_codes.specs.Codes.{range, time_overflow}
use Rattle.fix_core.specs.Units.{most_ticks}
use Rattle.fix_core.specs.Passes.{◌>>=◌}
use Rattle.ams_value.specs.declared.val.Val.{Val}
use Rattle.ams_value.specs.declared.val.Val.TheVariants as val
use Rattle.ams_value.specs.Values.{ticks_of}
use Rattle.flat_expr.specs.declared.statement.WaveElement.{WaveElement}
use Rattle.step_data.specs.declared.trans.Trans.{Trans}
use Rattle.step_data.specs.declared.outcome.Refusal.{Refusal}
use Rattle.waveform.specs.declared.trans.DelayKind.{DelayKind}
use Rattle.waveform.specs.declared.trans.DelayKind.TheVariants.{Transport, Inertial}
use Rattle.waveform.specs.Projected.{is_before, is_marked, marked, kept, projected}
use Rattle.cycle_meaning.specs.World.{Context, Local, refusal, refused_where, evaluated, time_after}
use Rattle.cycle_meaning.specs.Statements.{delay_of, bad_delay, transactions}

-- what follows a call that passed
pub by_steps : {A B : Type 0} (Q : B → Type 0) (m : Result A Refusal) (f : A → Result B Refusal) → ((a : A) (b : B) → m ≡ Ok a → f a ≡ Ok b → Q b) → (b : B) → (m >>= f) ≡ Ok b → Q b
by_steps Q (Ok a) f h b e = h a b refl e
by_steps Q (Err r) f h b e = absurd cc

abbrev passed : {A : Type 0} → A → Result A Refusal
passed a = Ok a

pub ok_is : {A : Type 0} (a b : A) → passed a ≡ passed b → a ≡ b
ok_is a b e = cc

pub where_is : {A : Type 0} (t : Bool) (r : Refusal) (a b : A) → refused_where t r a ≡ Ok b → a ≡ b
where_is true r a b e = absurd cc
where_is false r a b e = cc

pub where_not : {A : Type 0} (t : Bool) (r : Refusal) (a b : A) → refused_where t r a ≡ Ok b → t ≡ false
where_not true r a b e = absurd cc
where_not false r a b e = refl

-- ---- projected waveforms

if_all : (P : Trans → Type 0) (t : Bool) (xs ys : List Trans) → All P xs → All P ys → All P (if t then xs else ys)
if_all P true xs ys a b = a
if_all P false xs ys a b = b

marked_all : (P : Trans → Type 0) (reject : ℕ) (first : Trans) (old : List Trans) → All P old → All P (marked reject first old)
unfolding marked
marked_all P reject first [] all = All-nil P
marked_all P reject first (x ∷ later) all =
    let more : All P (marked reject first later) = marked_all P reject first later (All-tail P x later all) in
    if_all P (is_marked reject first (x ∷ later)) (x ∷ marked reject first later) (marked reject first later) (All-cons P x (marked reject first later) (All-head P x later all) more) more

kept_all : (P : Trans → Type 0) (kind : DelayKind) (reject : ℕ) (first : Trans) (old : List Trans) → All P old → All P (kept kind reject first old)
kept_all P Transport reject first old all = all
kept_all P Inertial reject first old all = marked_all P reject first old all

pub projected_all : (P : Trans → Type 0) (kind : DelayKind) (reject : ℕ) (old new : List Trans) → All P old → All P new → All P (projected kind reject old new)
projected_all P kind reject old [] a b = a
projected_all P kind reject old (first ∷ more) a b =
    All-append P (kept kind reject first (filter (is_before first.at) old)) (first ∷ more) (kept_all P kind reject first (filter (is_before first.at) old) (All-filter (is_before first.at) P old a)) b

-- an element of a list, or what stands for it
pub element_of : {X : Type 0} (P : X → Type 0) (xs : List X) (k : ℕ) (d : X) → P d → All P xs → P (slice_index_or xs k d)
element_of P [] k d h all = h
element_of P (x ∷ xs) zero d h all = All-head P x xs all
element_of P (x ∷ xs) (suc k) d h all = element_of P xs k d h (All-tail P x xs all)

-- ---- times

if_time : (t : Bool) (a b : ℕ) (r : Refusal) → (if t then Ok a else Err r) ≡ Ok b → a ≡ b
if_time true a b r e = cc
if_time false a b r e = absurd cc

-- a delay leads to no earlier time
pub time_is_late : (here : Context) (d : Val) (at : ℕ) → time_after here d ≡ Ok at → here.t ≤ at
time_is_late here (val.Time (pos d)) at e = let same : here.t + d ≡ at = if_time (nat_le (here.t + d) most_ticks) (here.t + d) at (refusal here time_overflow) e in omega arith
time_is_late here (val.Time (negsuc d)) at e = absurd cc
time_is_late here (val.Bool _) at e = absurd cc
time_is_late here (val.Bit _) at e = absurd cc
time_is_late here (val.Int _) at e = absurd cc
time_is_late here (val.Real _) at e = absurd cc
time_is_late here (val.Enum _ _) at e = absurd cc
time_is_late here (val.Bits _ _) at e = absurd cc

-- ---- the transactions of a waveform

pub transactions_late : (here : Context) (l : Local) (fits : Val → Bool) (limit before : Option ℤ) (wave : List WaveElement) (new : List Trans) → transactions here l fits limit before wave ≡ Ok new
    → All (λ (x : Trans). here.t ≤ x.at) new
unfolding transactions
transactions_late here l fits limit before [] new e = subst (All (λ (x : Trans). here.t ≤ x.at)) (ok_is [] new e) (All-nil (λ (x : Trans). here.t ≤ x.at))
transactions_late here l fits limit before (w ∷ more) new e =
    by_steps Late (evaluated here l w.value) (λ v. delay_of here l w.delay >>= (λ d. tested v d))
    (λ v b _. by_steps Late (delay_of here l w.delay) (λ d. tested v d)
    (λ d b _. by_steps Late (refused_where (not (fits v)) (refusal here range) v) (λ u. delayed d u)
    (λ u b _. by_steps Late (refused_where (bad_delay limit before (ticks_of d)) (refusal here range) (ticks_of d)) (λ delay. timed d u delay)
    (λ delay b _. by_steps Late (time_after here d) (λ at. later at u delay)
    (λ at b at_is. by_steps Late (transactions here l fits limit (Some delay) more) (λ others. Ok (record { at = at; value = u } ∷ others))
    (λ others b others_are is. subst Late (ok_is (record { at = at; value = u } ∷ others) b is)
    (All-cons (λ (x : Trans). here.t ≤ x.at) (record { at = at; value = u }) others (time_is_late here d at at_is) (transactions_late here l fits limit (Some delay) more others others_are))) b) b) b) b) b) new e
  where
    Late : List Trans → Type 0
    Late xs = All (λ (x : Trans). here.t ≤ x.at) xs

    later : ℕ → Val → ℤ → Result (List Trans) Refusal
    later at u delay = transactions here l fits limit (Some delay) more >>= (λ others. Ok (record { at = at; value = u } ∷ others))

    timed : Val → Val → ℤ → Result (List Trans) Refusal
    timed d u delay = time_after here d >>= (λ at. later at u delay)

    delayed : Val → Val → Result (List Trans) Refusal
    delayed d u = refused_where (bad_delay limit before (ticks_of d)) (refusal here range) (ticks_of d) >>= (λ delay. timed d u delay)

    tested : Val → Val → Result (List Trans) Refusal
    tested v d = refused_where (not (fits v)) (refusal here range) v >>= (λ u. delayed d u)
