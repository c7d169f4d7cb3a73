-- The signals as far as they have taken the values of their drivers.
use Rattle.std.proofs.Common.{◌≡◌, ℕ, zero, suc, ◌<◌, ◌≤◌, ◌+◌, Bool, true, false, List, [], ◌∷◌, ◌++◌, length, map, get_or, set, Some, inl, inr, refl, sym, ap, ◌∙◌, arith, append_assoc}
use Rattle.std.specs.Prelude.{None, nat_eq, position, replicate, slice_get, if◌then◌else◌}
use Rattle.std.specs.List.{All, AllPairs}
use Rattle.std.proofs.lemmas.Bool.{cases_lt, cases_eq}
use Rattle.std.proofs.lemmas.List.{append-nil, length-set, get_or-set_same, get_or-set_other}
use Rattle.std.proofs.lemmas.List.Quantifiers.{position-Some}
use Rattle.std.proofs.lemmas.List.Elements.{All-nil, All-head, All-tail, All-set, All-filter}
use Rattle.std.proofs.lemmas.Option.{get_or_from_slice_get, slice_get-get_or}
use Rattle.std.proofs.Math.Seq.{map-set_same}
use Rattle.ams_value.specs.declared.val.Val.{Val}
use Rattle.ams_value.specs.declared.val.Val.TheVariants as val
use Rattle.step_data.specs.declared.trans.Trans.{Trans}
use Rattle.step_data.specs.declared.event.Event.{Event}
use Rattle.step_data.specs.declared.event.Event.TheVariants.{Signal}
use Rattle.step_data.specs.Pending.{due, advanced, is_after}
use Rattle.step_model.specs.Kernel.{AddsFront}
use Rattle.waveform.specs.Projected.{IsRising}
use Rattle.design_meaning.specs.Readings.{Seen, still}
use Rattle.cycle_meaning.specs.Cycles.{event_if, first_time, driving, queue_in, with_driving, signal_events}
use Rattle.driver_set.specs.Queues.{AreLate, AreRising, stands_first}
use Rattle.driver_set.proofs.QueueSteps.{advanced_rising}
use Rattle.driving_values.specs.Driving.{seens, due_for, driven_by, IsOrdered}
use Rattle.driving_values.proofs.Steps.{with_driving_is, cleared, driven_once, driven_all, eq_no, queue_other, queue_here, queue_has, none_due, all_stay, later_ones, not_first, none_advances, all_waited, time_found, how_many, one_fewer}
use Rattle.driving_values.proofs.Events.{StillFrom, given_once, front_of, length_driven, driven_at, length_seens, seen_at, event_still}

pub record Driving (t n count : ℕ) (driven : List ℕ) (first : List (List Trans)) (before : List Val) (old : List Event) (queues : List (List Trans)) (values : List Val) (events : List Bool) (out : List Event) : Type 0 where
  pub from : ℕ
  pub late : AreLate t queues
  pub rising : AreRising queues
  pub as_many : length queues ≡ length driven
  pub values_count : length values ≡ count
  pub events_count : length events ≡ length values
  pub waits : StillFrom from (seens values events)
  pub passed : (i : ℕ) → i < from → due_for t driven queues i ≡ None
  pub same_queues : map (advanced t) queues ≡ map (advanced t) first
  pub same_signals : driven_by (due_for t driven queues) 0 (seens values events) ≡ with_driving t driven first 0 before
  pub given : out ≡ old ++ signal_events t n 0 (seens values events)

-- ---- the start

get_none : (k : ℕ) (d : Bool) (m : ℕ) → k < m → get_or (replicate m false) k d ≡ false
get_none k d zero h = absurd (omega arith)
get_none zero d (suc m) h = refl
get_none (suc k) d (suc m) h = get_none k d m (omega arith)

quiet_at : (values : List Val) (i : ℕ) (d : Seen) → i < length (map still values) → (get_or (map still values) i d).event ≡ false
quiet_at [] i d h = absurd (omega arith)
quiet_at (v ∷ values) zero d h = refl
quiet_at (v ∷ values) (suc i) d h = quiet_at values i d (omega arith)

none_yet : (values : List Val) → StillFrom 0 (map still values)
none_yet values = λ i d le h. quiet_at values i d h

no_events : (t n b : ℕ) (values : List Val) → signal_events t n b (map still values) ≡ []
no_events t n b [] = refl
no_events t n b (v ∷ values) = no_events t n (b + 1) values

length_replicate : (m : ℕ) → length (replicate m false) ≡ m
length_replicate zero = refl
length_replicate (suc m) = ap suc (length_replicate m)

pub started : (t n : ℕ) (driven : List ℕ) (first : List (List Trans)) (before values : List Val) (events : List Bool) (old : List Event)
    → AreLate t first → AreRising first → length first ≡ length driven → values ≡ before → events ≡ replicate (length before) false
    → Driving t n (length before) driven first before old first values events old
started t n driven first before values events old late rising as_many ev ee =
    let seen : seens values events ≡ map still before = ap (λ v. seens v events) ev ∙ ap (seens before) ee ∙ cleared before in
    record {
      from = 0;
      late = late;
      rising = rising;
      as_many = as_many;
      values_count = ap length ev;
      events_count = ap length ee ∙ length_replicate (length before) ∙ sym (ap length ev);
      waits = rw seen (none_yet before);
      passed = λ i h. absurd (omega arith);
      same_queues = refl;
      same_signals = rw seen (sym (with_driving_is t driven first 0 before));
      given = rw seen (sym (ap (λ l. old ++ l) (no_events t n 0 before) ∙ append-nil old));
    }

-- ---- the end

pub ended : (t n count : ℕ) (driven : List ℕ) (first : List (List Trans)) (before : List Val) (old : List Event) (queues : List (List Trans)) (values : List Val) (events : List Bool) (out : List Event)
    → Driving t n count driven first before old queues values events out → position (stands_first t) queues ≡ None
    → (queues ≡ map (advanced t) first) × (seens values events ≡ with_driving t driven first 0 before) × (out ≡ old ++ signal_events t n 0 (with_driving t driven first 0 before))
ended t n count driven first before old queues values events out l none =
    let later = all_waited t queues none l.late l.rising in
    let idle : (i : ℕ) → due_for t driven queues i ≡ None = λ i. none_due t (queue_in i driven queues) (queue_has (λ (q : List Trans). All (λ (y : Trans). t < y.at) q) driven queues i (All-nil (λ (y : Trans). t < y.at)) later) in
    let seen : seens values events ≡ with_driving t driven first 0 before = sym (driven_all (due_for t driven queues) 0 (seens values events) idle) ∙ l.same_signals in
    (sym (none_advances t queues later) ∙ l.same_queues, seen, l.given ∙ ap (λ s. old ++ signal_events t n 0 s) seen)

pub stopped : (t n count : ℕ) (driven : List ℕ) (first : List (List Trans)) (before : List Val) (old : List Event) (queues : List (List Trans)) (values : List Val) (events : List Bool) (out : List Event)
    → Driving t n count driven first before old queues values events out → AddsFront old out (signal_events t n 0 (with_driving t driven first 0 before))
stopped t n count driven first before old queues values events out l =
    let S = seens values events in
    let F = driven_by (due_for t driven queues) 0 S in
    let front = front_of t n 0 l.from S F (length_driven (due_for t driven queues) 0 S) l.waits
    (λ i d h g. driven_at (due_for t driven queues) 0 i S d g (let place : 0 + i ≡ i = omega arith in ap (due_for t driven queues) place ∙ l.passed i h)) in
    record {
      front = signal_events t n 0 S;
      is_front = (front.0, front.1 ∙ ap (signal_events t n 0) l.same_signals);
      new_is = l.given;
    }

-- ---- one step

pub stands_yes : (t k : ℕ) (queues : List (List Trans)) → position (stands_first t) queues ≡ Some k → (k < length queues) × (stands_first t (get_or queues k []) ≡ true) × ((j : ℕ) → j < k → stands_first t (get_or queues j []) ≡ false)
stands_yes t k queues e = position-Some (stands_first t) queues k [] e

is_due : (t : ℕ) (q : List Trans) → stands_first t q ≡ true → due t q ≡ None → ⊥
is_due t [] e none = cc
is_due t (x ∷ q) e none = let none' = rw e at none in cc

absent : (driven : List ℕ) (queues : List (List Trans)) (i : ℕ) → All (λ (j : ℕ). i < j) driven → queue_in i driven queues ≡ []
absent [] queues i all = refl
absent (j ∷ driven) [] i all = refl
absent (j ∷ driven) (q ∷ queues) i all =
    let less : i < j = All-head (λ (m : ℕ). i < m) j driven all in
    let miss : nat_eq i j ≡ false = eq_no i j (λ e. omega arith) in
    rw miss (absent driven queues i (All-tail (λ (m : ℕ). i < m) j driven all))

later_numbers : (j : ℕ) (driven : List ℕ) (i : ℕ) → AllPairs (λ a b. a < b) (j ∷ driven) → i ≤ j → All (λ (m : ℕ). i < m) driven
later_numbers j driven i rising le = λ k d h. let less : j < get_or driven k d = rising 0 (suc k) d (omega arith) (omega arith) in omega arith

-- nothing is due for a signal before that of the first driver that is due
earlier : (t : ℕ) (driven : List ℕ) (queues : List (List Trans)) (k i d : ℕ) → AllPairs (λ a b. a < b) driven → AreLate t queues → AreRising queues
    → ((j : ℕ) → j < k → stands_first t (get_or queues j []) ≡ false) → k < length driven → d ≡ get_or driven k d → i < d → due_for t driven queues i ≡ None
earlier t [] queues k i d order late rising none h is less = absurd (omega arith)
earlier t (j ∷ driven) [] k i d order late rising none h is less = refl
earlier t (j ∷ driven) (q ∷ queues) zero i d order late rising none h is less =
    let miss : nat_eq i j ≡ false = eq_no i j (λ e. omega arith) in
    rw (miss, absent driven queues i (later_numbers j driven i order (omega arith))) refl
earlier t (j ∷ driven) (q ∷ queues) (suc k) i d order late rising none h is less =
    by (nat_eq i j) (none_due t q (not_first t q (none 0 (omega arith)) (All-head (λ (x : List Trans). All (λ (y : Trans). t ≤ y.at) x) q queues late) (All-head (λ (x : List Trans). IsRising x) q queues rising)))
    (earlier t driven queues k i d (λ a b x le lt. order (suc a) (suc b) x (omega arith) (omega arith)) (All-tail (λ (x : List Trans). All (λ (y : Trans). t ≤ y.at) x) q queues late)
    (All-tail (λ (x : List Trans). IsRising x) q queues rising) (λ m lt. none (suc m) (omega arith)) (omega arith) is less)
  where
    by : (b : Bool) → due t q ≡ None → due t (queue_in i driven queues) ≡ None → due t (if b then q else queue_in i driven queues) ≡ None
    by true one other = one
    by false one other = other

first_waits : (t : ℕ) (q : List Trans) → All (λ (x : Trans). t < x.at) q → stands_first t q ≡ false
first_waits t [] later = refl
first_waits t (x ∷ q) later = let h : t < x.at = All-head (λ (y : Trans). t < y.at) x q later in eq_no x.at t (λ e. omega arith)

pub named_at : (t k : ℕ) (driven : List ℕ) (queues : List (List Trans)) → position (stands_first t) queues ≡ Some k → length queues ≡ length driven → slice_get driven k ≡ Some (get_or driven k 0)
named_at t k driven queues found e = let h : k < length queues = (stands_yes t k queues found).0 in slice_get-get_or driven k 0 (omega arith)

pub smaller : (t k : ℕ) (queues after : List (List Trans)) → position (stands_first t) queues ≡ Some k → after ≡ set queues k (advanced t (get_or queues k [])) → how_many t after < how_many t queues
smaller t k queues after found e =
    let yes' = stands_yes t k queues found in
    rw e (one_fewer t k queues (advanced t (get_or queues k [])) yes'.0 yes'.1 (first_waits t (advanced t (get_or queues k [])) (later_ones t (get_or queues k []))))

-- what a step asks of the signal of the driver that is due first
pub record Asked (t k d : ℕ) (driven : List ℕ) (queues : List (List Trans)) (values : List Val) (events : List Bool) : Type 0 where
  pub within : k < length queues
  pub late : All (λ (x : Trans). t ≤ x.at) (get_or queues k [])
  pub stands : first_time (get_or queues k []) ≡ Some t
  pub signal : d < length values
  pub still_is : slice_get events d ≡ Some false

late_at : (t k : ℕ) (queues : List (List Trans)) → AreLate t queues → All (λ (x : Trans). t ≤ x.at) (get_or queues k [])
late_at t k [] late = All-nil (λ (x : Trans). t ≤ x.at)
late_at t zero (q ∷ queues) late = All-head (λ (x : List Trans). All (λ (y : Trans). t ≤ y.at) x) q queues late
late_at t (suc k) (q ∷ queues) late = late_at t k queues (All-tail (λ (x : List Trans). All (λ (y : Trans). t ≤ y.at) x) q queues late)

number_at : (driven : List ℕ) (k d : ℕ) → slice_get driven k ≡ Some d → d ≡ get_or driven k d
number_at [] k d e = refl
number_at (x ∷ driven) zero d e = cc
number_at (x ∷ driven) (suc k) d e = number_at driven k d e

module _ (t n count : ℕ) (driven : List ℕ) (first : List (List Trans)) (before : List Val) (old : List Event) (queues : List (List Trans)) (values : List Val) (events : List Bool) (out : List Event)
    (l : Driving t n count driven first before old queues values events out) (order : IsOrdered count driven) (k d : ℕ) (found : position (stands_first t) queues ≡ Some k) (named : slice_get driven k ≡ Some d) where
  inside : k < length queues
  inside = (stands_yes t k queues found).0

  in_order : k < length driven
  in_order = omega (arith, inside, l.as_many)

  number : d ≡ get_or driven k d
  number = number_at driven k d named

  own : queue_in d driven queues ≡ get_or queues k []
  own = queue_here driven queues k d order.rising in_order inside number

  ahead : l.from ≤ d
  ahead =
      elim (cases_lt d l.from) [
        | inl less ↦ absurd (is_due t (get_or queues k []) (stands_yes t k queues found).1 (ap (due t) (sym own) ∙ l.passed d less))
        | inr le ↦ le
      ]

  signal_there : d < length values
  signal_there = let h : get_or driven k d < count = order.within k d in_order in omega (arith, h, number, l.values_count)

  pub asked : Asked t k d driven queues values events
  asked = record {
    within = inside;
    late = late_at t k queues l.late;
    stands = time_found t (first_time (get_or queues k [])) (stands_yes t k queues found).1;
    signal = signal_there;
    still_is = event_still values events d l.from l.events_count signal_there ahead l.waits;
  }

  abbrev queue : List Trans
  queue = get_or queues k []

  abbrev rest : List Trans
  rest = advanced t (get_or queues k [])

  apart : (after : List (List Trans)) (i : ℕ) → after ≡ set queues k (advanced t (get_or queues k [])) → (i ≡ d → ⊥) → due_for t driven after i ≡ due_for t driven queues i
  apart after i e other = rw e (ap (due t) (queue_other driven queues k i d (advanced t (get_or queues k [])) in_order number other))

  taken : (after : List (List Trans)) → after ≡ set queues k (advanced t (get_or queues k [])) → due_for t driven after d ≡ None
  taken after e =
      let long : k < length after = rw (e, length-set queues k (advanced t (get_or queues k []))) inside in
      let here : get_or after k [] ≡ advanced t (get_or queues k []) = rw e (get_or-set_same queues k (advanced t (get_or queues k [])) [] inside) in
      ap (due t) (queue_here driven after k d order.rising in_order long number ∙ here) ∙ none_due t (advanced t (get_or queues k [])) (later_ones t (get_or queues k []))

  gone : (after : List (List Trans)) (i : ℕ) → after ≡ set queues k (advanced t (get_or queues k [])) → i < d + 1 → due_for t driven after i ≡ None
  gone after i e h =
      elim (cases_eq i d) [
        | inl same ↦ ap (due_for t driven after) same ∙ taken after e
        | inr other ↦ apart after i e other ∙ earlier t driven queues k i d order.rising l.late l.rising (stands_yes t k queues found).2 in_order number (omega arith)
      ]

  seen_before : (v : Val) → slice_get values d ≡ Some v → still v ≡ get_or (seens values events) d (still v)
  seen_before v e =
      let value : get_or values d (val.Bool false) ≡ v = get_or_from_slice_get values d v (val.Bool false) e in
      let quiet : get_or events d false ≡ false = get_or_from_slice_get events d false false (event_still values events d l.from l.events_count signal_there ahead l.waits) in
      sym (seen_at values events d (still v) l.events_count signal_there ∙ ap (λ (w : Val). record { value = w; event = get_or events d false }) value ∙ ap (λ (b : Bool). record { value = v; event = b }) quiet)

  quiet_behind : (s : Seen) → StillFrom (d + 1) (set (seens values events) d s)
  quiet_behind s = λ i x le h.
      let other : i ≡ d → ⊥ = λ e. omega arith in
      let long : i < length (seens values events) = rw (sym (length-set (seens values events) d s)) h in
      rw (get_or-set_other (seens values events) d i s x other) (l.waits i x (omega (arith, le, ahead)) long)

  pub value_read : slice_get values d ≡ Some (get_or values d (val.Bool false))
  value_read = slice_get-get_or values d (val.Bool false) signal_there

  pub moved : (after : List (List Trans)) (now : List Val) (marks : List Bool) (told : List Event) (v : Val) → slice_get values d ≡ Some v
      → after ≡ set queues k (advanced t (get_or queues k []))
      → seens now marks ≡ set (seens values events) d (driving (still v) (due t (get_or queues k [])))
      → told ≡ out ++ event_if (driving (still v) (due t (get_or queues k []))).event (Signal t n d (driving (still v) (due t (get_or queues k []))).value)
      → length now ≡ length values → length marks ≡ length now → Driving t n count driven first before old after now marks told
  moved after now marks told v read eq seen given lv le =
      let S = seens values events in
      let s = driving (still v) (due t (get_or queues k [])) in
      let there : d < length S = rw (length_seens values events l.events_count) signal_there in
      let place : 0 + d ≡ d = omega arith in
      record {
        from = d + 1;
        late = rw eq (All-set (λ (q : List Trans). All (λ (x : Trans). t ≤ x.at) q) queues k (advanced t (get_or queues k [])) (All-filter (is_after t) (λ (x : Trans). t ≤ x.at) (get_or queues k []) (late_at t k queues l.late)) l.late);
        rising = advanced_rising queues after k t l.rising eq;
        as_many = ap length eq ∙ length-set queues k (advanced t (get_or queues k [])) ∙ l.as_many;
        values_count = lv ∙ l.values_count;
        events_count = le;
        waits = rw seen (quiet_behind s);
        passed = λ i h. gone after i eq h;
        same_queues = rw eq (map-set_same (advanced t) queues k (advanced t (get_or queues k [])) [] (all_stay t (advanced t (get_or queues k [])) (later_ones t (get_or queues k [])))) ∙ l.same_queues;
        same_signals =
            ap (driven_by (due_for t driven after) 0) seen
            ∙ driven_once (due_for t driven queues) (due_for t driven after) d 0 d S (still v) s (λ i other. apart after i eq other) (taken after eq) place there (seen_before v read)
            (ap (λ q. driving (still v) (due t q)) (sym own))
            ∙ l.same_signals;
        given =
            given ∙ ap (λ (x : List Event). x ++ event_if s.event (Signal t n d s.value)) l.given
            ∙ append_assoc old (signal_events t n 0 S) (event_if s.event (Signal t n d s.value))
            ∙ ap (λ (x : List Event). old ++ x) (ap (λ (m : ℕ). signal_events t n 0 S ++ event_if s.event (Signal t n m s.value)) (sym place) ∙ sym (given_once t n 0 d S s there (λ i x h g. l.waits i x (omega (arith, h, ahead)) g)))
            ∙ ap (λ (z : List Seen). old ++ signal_events t n 0 z) (sym seen);
      }
