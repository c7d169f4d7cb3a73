-- The times of a waveform rise.
use Rattle.std.proofs.Common.{◌≡◌, refl, sym, ap, subst, ◌∙◌, ℕ, suc, ◌+◌, ◌<◌, ◌≤◌, Bool, true, false, ℤ, pos, negsuc, List, [], ◌∷◌, length, Option, Some, None, Result, Ok, Err, arith}
use Rattle.std.specs.Prelude.{not, ◌||◌, int_lt, nat_le, if◌then◌else◌}
use Rattle.std.specs.List.{All}
use Rattle.std.proofs.lemmas.Bool.{ltb-true}
use Rattle.std.proofs.lemmas.List.Kept.{AllPairs-cons}
use Rattle.std.proofs.lemmas.List.Elements.{All-nil, All-cons, All-weaker}
use Rattle.message_codes.specs.Codes.{range, time_overflow}
use Rattle.fix_core.specs.Passes.{◌>>=◌}
use Rattle.fix_core.specs.Units.{most_ticks}
use Rattle.ams_value.specs.declared.val.Val.{Val}
use Rattle.ams_value.specs.declared.val.Val.TheVariants as val
use Rattle.ams_value.specs.Values.{ticks_of}
use Rattle.flat_expr.specs.declared.statement.WaveElement.{WaveElement}
use Rattle.step_data.specs.declared.trans.Trans.{Trans}
use Rattle.step_data.specs.declared.outcome.Refusal.{Refusal}
use Rattle.waveform.specs.Projected.{IsRising}
use Rattle.cycle_meaning.specs.World.{Context, Local, refusal, refused_where, evaluated, time_after}
use Rattle.cycle_meaning.specs.Statements.{delay_of, bad_delay, transactions}
use Rattle.statement_values.specs.declared.element.Timed.{Timed}
use Rattle.statement_values.specs.Parts.{tested_parts, transaction}
use Rattle.statement_values.proofs.PartLaws.{laws}
use Rattle.statement_lists.specs.Waves.{WaveformsRise}

-- ---- an element

kept_where : {A : Type 0} (t : Bool) (r : Refusal) (a b : A) → refused_where t r a ≡ Ok b → (t ≡ false) × (a ≡ b)
kept_where true r a b e = absurd cc
kept_where false r a b e = (refl, cc)

timed : Val → ℤ → ℕ → Timed
timed v d t = record { transaction = record { at = t; value = v }; delay = d }

-- the delay and the time that a transaction was made of
from_parts : (value : Result Val Refusal) (delay : Result ℤ Refusal) (at : Result ℕ Refusal) (made : Timed) →
    (value >>= (λ v. delay >>= (λ d. at >>= (λ t. Ok (timed v d t))))) ≡ Ok made → (delay ≡ Ok made.delay) × (at ≡ Ok made.transaction.at)
unfolding timed
from_parts (Ok v) (Ok d) (Ok t) made e =
    let same : timed v d t ≡ made = cc in
    (ap (λ (m : Timed). Ok m.delay) same, ap (λ (m : Timed). Ok m.transaction.at) same)
from_parts (Ok v) (Ok d) (Err r) made e = absurd cc
from_parts (Ok v) (Err r) at made e = absurd cc
from_parts (Err r) delay at made e = absurd cc

within_time : (t : Bool) (at end : ℕ) (r : Refusal) → (if t then Ok at else Err r) ≡ Ok end → end ≡ at
within_time true at end r e = cc
within_time false at end r e = absurd cc

time_is : (here : Context) (v : Val) (end : ℕ) → time_after here v ≡ Ok end → (d : ℕ) × (ticks_of v ≡ pos d) × (end ≡ here.t + d)
time_is here (val.Time (pos d)) end e = (d, refl, within_time (nat_le (here.t + d) most_ticks) (here.t + d) end (refusal here time_overflow) e)
time_is here (val.Time (negsuc d)) end e = absurd cc
time_is here _ end e = absurd cc

-- the delay is above the one before
abbrev IsAbove : Option ℤ → ℕ → Type 0
IsAbove (Some (pos e)) d = e < d
IsAbove _ d = Unit {0}

second_false : (a b : Bool) → (a || not b) ≡ false → b ≡ true
second_false true b e = absurd cc
second_false false true e = refl
second_false false false e = absurd cc

above : (limit before : Option ℤ) (d : ℕ) → bad_delay limit before (pos d) ≡ false → IsAbove before d
above limit None d e = tt
above limit (Some (pos b)) d e = ltb-true b d (second_false (int_lt (pos d) (pos 0)) (int_lt (pos b) (pos d)) e)
above limit (Some (negsuc b)) d e = tt

record IsTimed (here : Context) (before : Option ℤ) (made : Timed) : Type 0 where
  d : ℕ
  delay_is : made.delay ≡ pos d
  at_is : made.transaction.at ≡ here.t + d
  is_above : IsAbove before d

tested_is_timed : (here : Context) (fits : Val → Bool) (limit before : Option ℤ) (v d : Val) (made : Timed) → tested_parts here fits limit before v d ≡ Ok made → IsTimed here before made
unfolding timed
tested_is_timed here fits limit before v d made e =
    let parts = from_parts (refused_where (not (fits v)) (refusal here range) v) (refused_where (bad_delay limit before (ticks_of d)) (refusal here range) (ticks_of d)) (time_after here d) made e in
    let delay = kept_where (bad_delay limit before (ticks_of d)) (refusal here range) (ticks_of d) made.delay parts.0 in
    let time = time_is here d made.transaction.at parts.1 in
    record {
      d = time.0;
      delay_is = sym delay.1 ∙ time.1;
      at_is = time.2;
      is_above = above limit before time.0 (ap (bad_delay limit before) (sym time.1) ∙ delay.0);
    }

from_values : (here : Context) (fits : Val → Bool) (limit before : Option ℤ) (value delay : Result Val Refusal) (made : Timed) →
    (value >>= (λ v. delay >>= (λ d. tested_parts here fits limit before v d))) ≡ Ok made → IsTimed here before made
from_values here fits limit before (Ok v) (Ok d) made e = tested_is_timed here fits limit before v d made e
from_values here fits limit before (Ok v) (Err r) made e = absurd cc
from_values here fits limit before (Err r) delay made e = absurd cc

is_timed : (here : Context) (l : Local) (fits : Val → Bool) (limit before : Option ℤ) (e : WaveElement) (made : Timed) → transaction here l fits limit before e ≡ Ok made → IsTimed here before made
is_timed here l fits limit before e made is = from_values here fits limit before (evaluated here l e.value) (delay_of here l e.delay) made is

-- ---- the waveform

abbrev IsPast : Context → Option ℤ → Trans → Type 0
IsPast here (Some (pos e)) x = here.t + e < x.at
IsPast here _ x = here.t ≤ x.at

past_first : (here : Context) (before : Option ℤ) (d : ℕ) (x : Trans) → x.at ≡ here.t + d → IsAbove before d → IsPast here before x
past_first here (Some (pos e)) d x is h = omega (arith, is, h)
past_first here (Some (negsuc e)) d x is h = omega (arith, is)
past_first here None d x is h = omega (arith, is)

past_later : (here : Context) (before : Option ℤ) (d : ℕ) (x : Trans) → IsAbove before d → here.t + d < x.at → IsPast here before x
past_later here (Some (pos e)) d x h k = omega (arith, h, k)
past_later here (Some (negsuc e)) d x h k = omega (arith, k)
past_later here None d x h k = omega (arith, k)

record Rises (here : Context) (before : Option ℤ) (wave : List WaveElement) (new : List Trans) : Type 0 where
  past : All (IsPast here before) new
  rising : IsRising new
  as_many : length new ≡ length wave

none_rise : (here : Context) (before : Option ℤ) → Rises here before [] []
none_rise here before = record { past = All-nil (IsPast here before); rising = λ i j d less inside. absurd (omega (arith, inside)); as_many = refl }

one_more_rises : (here : Context) (before : Option ℤ) (e : WaveElement) (more : List WaveElement) (made : Timed) (later : List Trans) → IsTimed here before made →
    Rises here (Some made.delay) more later → Rises here before (e ∷ more) (made.transaction ∷ later)
one_more_rises here before e more made later timed rest =
    let past : All (IsPast here (Some (pos timed.d))) later = subst (λ (z : ℤ). All (IsPast here (Some z)) later) timed.delay_is rest.past in
    record {
      past =
          All-cons (IsPast here before) made.transaction later (past_first here before timed.d made.transaction timed.at_is timed.is_above)
          (All-weaker (IsPast here (Some (pos timed.d))) (IsPast here before) (λ x k. past_later here before timed.d x timed.is_above k) later past);
      rising =
          AllPairs-cons (λ (a b : Trans). a.at < b.at) made.transaction later
          (All-weaker (IsPast here (Some (pos timed.d))) (λ (b : Trans). made.transaction.at < b.at) (λ x k. omega (arith, k, timed.at_is)) later past) rest.rising;
      as_many = ap suc rest.as_many;
    }

by_rest : (here : Context) (before : Option ℤ) (e : WaveElement) (more : List WaveElement) (made : Timed) (rest : Result (List Trans) Refusal) (new : List Trans) → IsTimed here before made →
    ((later : List Trans) → rest ≡ Ok later → Rises here (Some made.delay) more later) →
    (rest >>= (λ later. Ok (made.transaction ∷ later))) ≡ Ok new → Rises here before (e ∷ more) new
by_rest here before e more made (Ok later) new timed rises is =
    let same : made.transaction ∷ later ≡ new = cc in
    subst (Rises here before (e ∷ more)) same (one_more_rises here before e more made later timed (rises later refl))
by_rest here before e more made (Err r) new timed rises is = absurd cc

by_first : (here : Context) (l : Local) (fits : Val → Bool) (limit before : Option ℤ) (e : WaveElement) (more : List WaveElement) (first : Result Timed Refusal) (new : List Trans) →
    ((made : Timed) → first ≡ Ok made → IsTimed here before made) →
    ((d : ℤ) (later : List Trans) → transactions here l fits limit (Some d) more ≡ Ok later → Rises here (Some d) more later) →
    (first >>= (λ made. transactions here l fits limit (Some made.delay) more >>= (λ later. Ok (made.transaction ∷ later)))) ≡ Ok new → Rises here before (e ∷ more) new
by_first here l fits limit before e more (Ok made) new timed rises is =
    by_rest here before e more made (transactions here l fits limit (Some made.delay) more) new (timed made refl) (rises made.delay) is
by_first here l fits limit before e more (Err r) new timed rises is = absurd cc

rises_from : (here : Context) (l : Local) (fits : Val → Bool) (limit before : Option ℤ) (wave : List WaveElement) (new : List Trans) → transactions here l fits limit before wave ≡ Ok new →
    Rises here before wave new
unfolding transactions
rises_from here l fits limit before [] new is =
    let same : [] ≡ new = cc in
    subst (Rises here before []) same (none_rise here before)
rises_from here l fits limit before (e ∷ more) new is =
    by_first here l fits limit before e more (transaction here l fits limit before e) new (is_timed here l fits limit before e)
    (λ d later. rises_from here l fits limit (Some d) more later) (sym (laws.waveform here l fits limit before e more) ∙ is)

pub waveforms : WaveformsRise
waveforms here l fits limit wave new is =
    let rises = rises_from here l fits limit None wave new is in
    record { rising = rises.rising; later = rises.past; as_many = rises.as_many }
