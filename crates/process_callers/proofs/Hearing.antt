-- The processes that events and timeouts call.
use Rattle.std.proofs.Common.{◌≡◌, ◌⊎◌, inl, inr, refl, ap, sym, ◌∙◌, subst, ℕ, zero, suc, ◌+◌, ◌<◌, ◌≤◌, Bool, true, false, nat_eq, List, [], ◌∷◌, ◌++◌, length, get_or, take, drop, map, set, arith, ◌-◌, append_assoc, length-set}
use Rattle.std.specs.Prelude.{Option, Some, None, IfSome, nat_lt, not, cond, position, if◌then◌else◌}
use Rattle.std.specs.List.{flat_map, range_with_len, position_or_len, All, Contains}
use Rattle.std.proofs.lemmas.Bool.Decides.{nat_tests}
use Rattle.std.proofs.lemmas.Bool.{cases_lt, cases_eq}
use Rattle.std.proofs.lemmas.Grind.{flat_map-append}
use Rattle.std.proofs.lemmas.List.{map-set, get_or-set_same, get_or-set_other, take_more}
use Rattle.std.proofs.lemmas.List.Elements.{All-set, All-push, All-nil, All-head, All-tail, All-append, All-contains, Contains-get_or}
use Rattle.std.proofs.lemmas.List.Quantifiers.{position-Some}
use Rattle.ams_value.specs.declared.val.Val.TheVariants as val
use Rattle.flat_expr.specs.declared.expr.SignalName.{SignalName}
use Rattle.flat_expr.specs.declared.expr.SignalName.TheVariants as name
use Rattle.step_data.specs.declared.event.Event.{Event}
use Rattle.step_data.specs.declared.event.Event.TheVariants as event
use Rattle.design_meaning.specs.Readings.{Seen, still}
use Rattle.cycle_meaning.specs.World.{World, Context}
use Rattle.cycle_meaning.specs.Cycles.{event_if, crossings, signal_events, is_on, is_timed_out}
use Rattle.agenda.specs.Times.{is_time}
use Rattle.resumption.specs.Sleeps.{Sleep}
use Rattle.resumption.specs.Waits.{no_sleep}
use Rattle.resumption_calls.specs.Calls.{is_called, had_event, AreCalled}
use Rattle.process_callers.specs.Callers.{Lists, callers_of, AreWithin}
use Rattle.process_callers.specs.Calling.{heard, unless_due, AreEvents}
use Rattle.resumption_calls.proofs.Members.{place_of, member_at}
use Rattle.process_callers.proofs.Putting.{called_left, called_right, called_one}

-- ---- events

heard_behind : (c : Lists) (xs ys : List Event) (k : ℕ) → is_called (flat_map (heard c) ys) k ≡ true → is_called (flat_map (heard c) (xs ++ ys)) k ≡ true
heard_behind c xs ys k h = ap (λ (l : List ℕ). is_called l k) (flat_map-append (heard c) xs ys) ∙ called_right (flat_map (heard c) xs) (flat_map (heard c) ys) k h

heard_before : (c : Lists) (xs ys : List Event) (k : ℕ) → is_called (flat_map (heard c) xs) k ≡ true → is_called (flat_map (heard c) (xs ++ ys)) k ≡ true
heard_before c xs ys k h = ap (λ (l : List ℕ). is_called l k) (flat_map-append (heard c) xs ys) ∙ called_left (flat_map (heard c) xs) (flat_map (heard c) ys) k h

heard_one : (c : Lists) (b : Bool) (e : Event) (k : ℕ) → b ≡ true → is_called (heard c e) k ≡ true → is_called (flat_map (heard c) (event_if b e)) k ≡ true
heard_one c true e k h is = called_left (heard c e) [] k is
heard_one c false e k h is = absurd (cc)

no_event : (i : ℕ) → (get_or [] i (still (val.Bool false))).event ≡ true → ⊥
no_event i h = cc

heard_signal : (c : Lists) (t n m i k : ℕ) (s : List Seen) → (get_or s i (still (val.Bool false))).event ≡ true → is_called (get_or c.signals (m + i) []) k ≡ true → is_called (flat_map (heard c) (signal_events t n m s)) k ≡ true
heard_signal c t n m i k [] happened stands = absurd (no_event i happened)
heard_signal c t n m zero k (x ∷ s) happened stands =
    heard_before c (event_if x.event (event.Signal t n m x.value)) (signal_events t n (m + 1) s) k
    (heard_one c x.event (event.Signal t n m x.value) k happened (subst (λ (j : ℕ). is_called (get_or c.signals j []) k ≡ true) (omega arith) stands))
heard_signal c t n m (suc i) k (x ∷ s) happened stands =
    heard_behind c (event_if x.event (event.Signal t n m x.value)) (signal_events t n (m + 1) s) k
    (heard_signal c t n (m + 1) i k s happened (subst (λ (j : ℕ). is_called (get_or c.signals j []) k ≡ true) (omega arith) stands))

heard_threshold : (c : Lists) (t n m i k : ℕ) (s : List Seen) → (get_or s i (still (val.Bool false))).event ≡ true → is_called (get_or c.thresholds (m + i) []) k ≡ true → is_called (flat_map (heard c) (crossings t n m s)) k ≡ true
heard_threshold c t n m i k [] happened stands = absurd (no_event i happened)
heard_threshold c t n m zero k (x ∷ s) happened stands =
    heard_before c (event_if x.event (event.Cross t n m (is_on x.value))) (crossings t n (m + 1) s) k
    (heard_one c x.event (event.Cross t n m (is_on x.value)) k happened (subst (λ (j : ℕ). is_called (get_or c.thresholds j []) k ≡ true) (omega arith) stands))
heard_threshold c t n m (suc i) k (x ∷ s) happened stands =
    heard_behind c (event_if x.event (event.Cross t n m (is_on x.value))) (crossings t n (m + 1) s) k
    (heard_threshold c t n (m + 1) i k s happened (subst (λ (j : ℕ). is_called (get_or c.thresholds j []) k ≡ true) (omega arith) stands))

-- what had an event is there
is_there : (s : List Seen) (i : ℕ) → (get_or s i (still (val.Bool false))).event ≡ true → i < length s
is_there [] i h = absurd (no_event i h)
is_there (x ∷ s) zero h = omega arith
is_there (x ∷ s) (suc i) h = let more : i < length s = is_there s i h in omega (arith, more)

own_list : (lists : List (List ℕ)) (i k : ℕ) (d : List ℕ) → i < length lists → is_called (get_or lists i d) k ≡ true → is_called (get_or lists (0 + i) []) k ≡ true
own_list lists i k d h is =
    ap (λ (l : List ℕ). is_called l k) (ap (λ (j : ℕ). get_or lists j []) (omega arith) ∙ any_default lists i [] d h) ∙ is
  where
    any_default : (xs : List (List ℕ)) (i : ℕ) (a b : List ℕ) → i < length xs → get_or xs i a ≡ get_or xs i b
    any_default [] i a b h = absurd (omega arith)
    any_default (x ∷ xs) zero a b h = refl
    any_default (x ∷ xs) (suc i) a b h = any_default xs i a b (omega arith)

pub events_call : (count : ℕ) (c : Lists) (w : World) (t n : ℕ) (events : List Event) → AreEvents c w t n events
    → (i : SignalName) (k : ℕ) → had_event w i ≡ true → is_called (callers_of count c i) k ≡ true → is_called (flat_map (heard c) events) k ≡ true
events_call count c w t n events are i k happened stands = subst (λ (l : List Event). is_called (flat_map (heard c) l) k ≡ true) (sym are.events_are) (by i happened stands)
  where
    by : (i : SignalName) → had_event w i ≡ true → is_called (callers_of count c i) k ≡ true
        → is_called (flat_map (heard c) (event_if w.domain.event (event.Domain t n) ++ crossings t n 0 w.thresholds ++ signal_events t n 0 w.signals)) k ≡ true
    by (name.Signal m) happened stands =
        heard_behind c (event_if w.domain.event (event.Domain t n) ++ crossings t n 0 w.thresholds) (signal_events t n 0 w.signals) k
        (heard_signal c t n 0 m k w.signals happened (own_list c.signals m k (range_with_len 0 count) (let h : m < length w.signals = is_there w.signals m happened in let e = are.signals in omega (arith, h, e)) stands))
    by (name.Threshold m) happened stands =
        heard_before c (event_if w.domain.event (event.Domain t n) ++ crossings t n 0 w.thresholds) (signal_events t n 0 w.signals) k
        (heard_behind c (event_if w.domain.event (event.Domain t n)) (crossings t n 0 w.thresholds) k
        (heard_threshold c t n 0 m k w.thresholds happened (own_list c.thresholds m k (range_with_len 0 count) (let h : m < length w.thresholds = is_there w.thresholds m happened in let e = are.thresholds in omega (arith, h, e)) stands)))
    by name.Domain happened stands =
        heard_before c (event_if w.domain.event (event.Domain t n) ++ crossings t n 0 w.thresholds) (signal_events t n 0 w.signals) k
        (heard_before c (event_if w.domain.event (event.Domain t n)) (crossings t n 0 w.thresholds) k
        (heard_one c w.domain.event (event.Domain t n) k happened stands))

-- ---- timeouts

-- how many are due
pub how_many : ℕ → List (Option ℕ) → ℕ
how_many t [] = 0
how_many t (o ∷ times) = (if is_time o t then 1 else 0) + how_many t times

one_fewer : (t k : ℕ) (times : List (Option ℕ)) → k < length times → is_time (get_or times k None) t ≡ true → how_many t (set times k None) < how_many t times
unfolding how_many
one_fewer t k [] h is = absurd (omega arith)
one_fewer t zero (o ∷ times) h is = rw is (omega arith)
one_fewer t (suc k) (o ∷ times) h is = let less : how_many t (set times k None) < how_many t times = one_fewer t k times (omega arith) is in omega (arith, less)

-- some were called and taken out
pub record IsCalling (now : ℕ) (first : List (Option ℕ)) (old : List ℕ) (times : List (Option ℕ)) (called : List ℕ) : Type 0 where
  pub early : All (λ time. IfSome time (λ u. now ≤ u)) times
  pub count : length times ≡ length first
  pub same : map (unless_due now) times ≡ map (unless_due now) first
  pub calls : (k : ℕ) → k < length first → is_time (get_or first k None) now ≡ true → (is_called called k ≡ true) ⊎ (is_time (get_or times k None) now ≡ true)
  pub keeps : (k : ℕ) → is_called old k ≡ true → is_called called k ≡ true
  pub within : All (λ (k : ℕ). k < length first) old → All (λ (k : ℕ). k < length first) called

pub calling_none : (now : ℕ) (first : List (Option ℕ)) (old : List ℕ) → All (λ time. IfSome time (λ u. now ≤ u)) first → IsCalling now first old first old
calling_none now first old early = record {
  early = early;
  count = refl;
  same = refl;
  calls = λ k h is. inr is;
  keeps = λ k h. h;
  within = λ h. h;
}

found : (now k : ℕ) (times : List (Option ℕ)) → position (λ time. is_time time now) times ≡ Some k → (k < length times) × (is_time (get_or times k None) now ≡ true)
found now k times e = let h = position-Some (λ time. is_time time now) times k None e in (h.0, h.1)

pub found_within : (now k : ℕ) (times : List (Option ℕ)) → position (λ time. is_time time now) times ≡ Some k → k < length times
found_within now k times e = (found now k times e).0

pub found_smaller : (now k : ℕ) (times after : List (Option ℕ)) → position (λ time. is_time time now) times ≡ Some k → after ≡ set times k None → how_many now after < how_many now times
found_smaller now k times after e is = let h = found now k times e in subst (λ (l : List (Option ℕ)). how_many now l < how_many now times) (sym is) (one_fewer now k times h.0 h.1)

taken_out : (now k : ℕ) (times : List (Option ℕ)) → is_time (get_or times k None) now ≡ true → map (unless_due now) (set times k None) ≡ map (unless_due now) times
taken_out now k [] is = refl
taken_out now zero (o ∷ times) is = ap (λ (x : Option ℕ). x ∷ map (unless_due now) times) (sym (by (is_time o now) is))
  where
    by : (b : Bool) → b ≡ true → (if b then None else o) ≡ None
    by true h = refl
    by false h = absurd (cc)
taken_out now (suc k) (o ∷ times) is = ap (λ (l : List (Option ℕ)). unless_due now o ∷ l) (taken_out now k times is)

pub calling_more : (now k : ℕ) (first : List (Option ℕ)) (old : List ℕ) (times after : List (Option ℕ)) (called : List ℕ) → position (λ time. is_time time now) times ≡ Some k → after ≡ set times k None
    → IsCalling now first old times called → IsCalling now first old after (called ++ k ∷ [])
calling_more now k first old times after called e is c =
    let h = found now k times e in
    subst (λ (l : List (Option ℕ)). IsCalling now first old l (called ++ k ∷ [])) (sym is) (record {
      early = All-set (λ (time : Option ℕ). IfSome time (λ u. now ≤ u)) times k None tt c.early;
      count = length-set times k None ∙ c.count;
      same = taken_out now k times h.1 ∙ c.same;
      calls = λ j lt due. elim (c.calls j lt due) [
        | inl before ↦ inl (called_left called (k ∷ []) j before)
        | inr left ↦ elim (cases_eq j k) [
          | inl same ↦ inl (called_right called (k ∷ []) j (subst (λ (m : ℕ). is_called (m ∷ []) j ≡ true) same (called_one j)))
          | inr other ↦ inr (ap (λ (o : Option ℕ). is_time o now) (get_or-set_other times k j None None other) ∙ left)
        ]
      ];
      keeps = λ j before. called_left called (k ∷ []) j (c.keeps j before);
      within = λ all. All-push (λ (j : ℕ). j < length first) called k (c.within all) (let lt = h.0 in let e = c.count in omega (arith, lt, e));
    })

nothing_found : (p n : ℕ) → cond (nat_lt p n) (Some p) None ≡ None → n ≤ p
nothing_found p n e = elim (cases_lt p n) [
  | inl lt ↦ absurd (let yes : nat_lt p n ≡ true = grind (arith, nat_tests) in cc)
  | inr le ↦ le
]

missing_one : (p : Option ℕ → Bool) (x : Option ℕ) (times : List (Option ℕ)) (b : Bool) → p x ≡ b → length (x ∷ times) ≤ cond (not b) (1 + position_or_len p times) 0
    → (p x ≡ false) × (length times ≤ position_or_len p times)
missing_one p x times true e h = absurd (omega arith)
missing_one p x times false e h = (e, omega arith)

missing : (p : Option ℕ → Bool) (times : List (Option ℕ)) → length times ≤ position_or_len p times → p None ≡ false → (k : ℕ) → p (get_or times k None) ≡ false
missing p [] h n k = n
missing p (x ∷ times) h n zero = (missing_one p x times (p x) refl h).0
missing p (x ∷ times) h n (suc k) = missing p times (missing_one p x times (p x) refl h).1 n k

none_due : (now : ℕ) (times : List (Option ℕ)) → position (λ time. is_time time now) times ≡ None → (k : ℕ) → is_time (get_or times k None) now ≡ false
none_due now times e k = missing (λ time. is_time time now) times (nothing_found (position_or_len (λ time. is_time time now) times) (length times) e) refl k

pub calling_done : (now : ℕ) (first : List (Option ℕ)) (old : List ℕ) (times : List (Option ℕ)) (called : List ℕ) → position (λ time. is_time time now) times ≡ None → IsCalling now first old times called
    → (times ≡ map (unless_due now) first) × ((k : ℕ) → k < length first → is_time (get_or first k None) now ≡ true → is_called called k ≡ true)
calling_done now first old times called e c = (
  stay now times (none_due now times e) ∙ c.same,
  λ k lt due. elim (c.calls k lt due) [
    | inl before ↦ before
    | inr left ↦ absurd (let no : is_time (get_or times k None) now ≡ false = none_due now times e k in cc)
  ],
)
  where
    stay : (now : ℕ) (times : List (Option ℕ)) → ((k : ℕ) → is_time (get_or times k None) now ≡ false) → times ≡ map (unless_due now) times
    stay now [] none = refl
    stay now (o ∷ times) none = let first : is_time o now ≡ false = none 0 in rw first (ap (λ l. o ∷ l) (stay now times (λ k. none (suc k))))

-- ---- the events one by one

take_drop : (events : List Event) (from n : ℕ) (e : Event) → from + n < length events → e ≡ get_or events (from + n) e → take (n + 1) (drop from events) ≡ take n (drop from events) ++ e ∷ []
take_drop [] from n e h is = absurd (omega arith)
take_drop (x ∷ events) zero n e h is =
    let same : n ≡ 0 + n = omega arith in
    take_more (x ∷ events) n e (omega arith) ∙ ap (λ (y : Event). take n (x ∷ events) ++ y ∷ []) (ap (λ (m : ℕ). get_or (x ∷ events) m e) same ∙ sym is)
take_drop (x ∷ events) (suc from) n e h is =
    let same : suc from + n ≡ suc (from + n) = omega arith in
    take_drop events from n e (omega arith) (is ∙ ap (λ (m : ℕ). get_or (x ∷ events) m e) same)

nothing_behind : {A : Type 0} (xs : List A) → xs ++ [] ≡ xs
nothing_behind [] = refl
nothing_behind (x ∷ xs) = ap (λ l. x ∷ l) (nothing_behind xs)

pub heard_next : (c : Lists) (from k : ℕ) (events : List Event) (e : Event) (old before now : List ℕ) → k < length events → from ≤ k → e ≡ get_or events k e
    → before ≡ old ++ flat_map (heard c) (take (k - from) (drop from events)) → now ≡ before ++ heard c e → now ≡ old ++ flat_map (heard c) (take (k + 1 - from) (drop from events))
heard_next c from k events e old before now h le is was got =
    let place : from + (k - from) ≡ k = omega arith in
    let count : k + 1 - from ≡ k - from + 1 = omega arith in
    let one : take (k + 1 - from) (drop from events) ≡ take (k - from) (drop from events) ++ e ∷ [] =
    ap (λ (m : ℕ). take m (drop from events)) count ∙ take_drop events from (k - from) e (omega arith) (is ∙ ap (λ (m : ℕ). get_or events m e) (sym place)) in
    got ∙ ap (λ (l : List ℕ). l ++ heard c e) was ∙ append_assoc old (flat_map (heard c) (take (k - from) (drop from events))) (heard c e)
    ∙ ap (λ (l : List ℕ). old ++ l) (ap (λ (l : List ℕ). flat_map (heard c) (take (k - from) (drop from events)) ++ l) (sym (nothing_behind (heard c e))) ∙ sym (ap (flat_map (heard c)) one ∙ flat_map-append (heard c) (take (k - from) (drop from events)) (e ∷ [])))

-- ---- all that are called

any_default : {A : Type 0} (xs : List A) (i : ℕ) (a b : A) → i < length xs → get_or xs i a ≡ get_or xs i b
any_default [] i a b h = absurd (omega arith)
any_default (x ∷ xs) zero a b h = refl
any_default (x ∷ xs) (suc i) a b h = any_default xs i a b (omega arith)

list_within : (count : ℕ) (lists : List (List ℕ)) (i : ℕ) → All (λ (list : List ℕ). All (λ (k : ℕ). k < count) list) lists → All (λ (k : ℕ). k < count) (get_or lists i [])
list_within count [] i all = All-nil (λ (k : ℕ). k < count)
list_within count (x ∷ lists) zero all = All-head (λ (list : List ℕ). All (λ (k : ℕ). k < count) list) x lists all
list_within count (x ∷ lists) (suc i) all = list_within count lists i (All-tail (λ (list : List ℕ). All (λ (k : ℕ). k < count) list) x lists all)

one_within : (count : ℕ) (c : Lists) (e : Event) → AreWithin count c → All (λ (k : ℕ). k < count) (heard c e)
one_within count c (event.Domain t n) all = all.domain
one_within count c (event.Cross t n k on) all = list_within count c.thresholds k all.thresholds
one_within count c (event.Signal t n i value) all = list_within count c.signals i all.signals
one_within count c _ all = All-nil (λ (k : ℕ). k < count)

heard_within : (count : ℕ) (c : Lists) (events : List Event) → AreWithin count c → All (λ (k : ℕ). k < count) (flat_map (heard c) events)
heard_within count c [] all = All-nil (λ (k : ℕ). k < count)
heard_within count c (e ∷ events) all = All-append (λ (k : ℕ). k < count) (heard c e) (flat_map (heard c) events) (one_within count c e all) (heard_within count c events all)

-- those in order are those before
pub all_within : (count : ℕ) (c : Lists) (from : ℕ) (events : List Event) (cleared first second now : List ℕ) → AreWithin count c → cleared ≡ [] → first ≡ cleared ++ flat_map (heard c) (drop from events)
    → (All (λ (k : ℕ). k < count) first → All (λ (k : ℕ). k < count) second) → ((j : ℕ) → Contains now j → Contains second j) → All (λ (k : ℕ). k < count) now
all_within count c from events cleared first second now all ec ef more were = λ k d h.
    All-contains (λ (j : ℕ). j < count) second (get_or now k d)
    (more (subst (λ (l : List ℕ). All (λ (j : ℕ). j < count) l) (sym (ef ∙ ap (λ (l : List ℕ). l ++ flat_map (heard c) (drop from events)) ec)) (heard_within count c (drop from events) all)))
    (were (get_or now k d) (Contains-get_or now k d h))

contains_called : (xs : List ℕ) (j : ℕ) → is_called xs j ≡ true → Contains xs j
contains_called xs j h = let p = place_of j xs h in (p.0, p.1, any_default xs p.0 j 0 p.1 ∙ p.2)

called_contains : (xs : List ℕ) (j : ℕ) → Contains xs j → is_called xs j ≡ true
called_contains xs j c = member_at j xs c.0 c.1 (any_default xs c.0 0 j c.1 ∙ c.2)

-- one that is called stays so in order
moved : (second now : List ℕ) → ((j : ℕ) → Contains second j → Contains now j) → (j : ℕ) → is_called second j ≡ true → is_called now j ≡ true
moved second now keeps j h = called_contains now j (keeps j (contains_called second j h))

due_is : (t : ℕ) (o : Option ℕ) → is_timed_out t o ≡ true → is_time o t ≡ true
due_is t None h = h
due_is t (Some at) h = grind (arith, nat_tests)

timeout_at : (sleeps : List Sleep) (k : ℕ) → (get_or sleeps k no_sleep).timeout ≡ get_or (map (λ (z : Sleep). z.timeout) sleeps) k None
timeout_at [] k = refl
timeout_at (z ∷ sleeps) zero = refl
timeout_at (z ∷ sleeps) (suc k) = timeout_at sleeps k

count_timeouts : (sleeps : List Sleep) → length (map (λ (z : Sleep). z.timeout) sleeps) ≡ length sleeps
count_timeouts [] = refl
count_timeouts (z ∷ sleeps) = ap suc (count_timeouts sleeps)

pub all_called : (at : ℕ → Context) (w : World) (sleeps : List Sleep) (t n : ℕ) (c : Lists) (times : List (Option ℕ)) (events : List Event) (cleared first second now : List ℕ)
    → cleared ≡ [] → first ≡ cleared ++ flat_map (heard c) events
    → ((k : ℕ) → k < length times → is_time (get_or times k None) t ≡ true → is_called second k ≡ true) → ((k : ℕ) → is_called first k ≡ true → is_called second k ≡ true)
    → ((j : ℕ) → Contains second j → Contains now j) → ((k : ℕ) → (at k).t ≡ t) → map (λ (z : Sleep). z.timeout) sleeps ≡ times → AreEvents c w t n events
    → AreCalled at w (callers_of (length times) c) sleeps now
all_called at w sleeps t n c times events cleared first second now ec ef timeouts keeps order moment are heard_are = record {
  timeouts = λ k h due. moved second now order k
      (timeouts k (let e = ap length (sym are) ∙ count_timeouts sleeps in omega (arith, e, h))
      (due_is t (get_or times k None) (ap (λ (l : List (Option ℕ)). is_timed_out t (get_or l k None)) (sym are) ∙ ap (is_timed_out t) (sym (timeout_at sleeps k)) ∙ ap (λ (u : ℕ). is_timed_out u (get_or sleeps k no_sleep).timeout) (sym (moment k)) ∙ due)));
  events = λ i k happened stands. moved second now order k
      (keeps k (ap (λ (l : List ℕ). is_called l k) (ef ∙ ap (λ (l : List ℕ). l ++ flat_map (heard c) events) ec) ∙ events_call (length times) c w t n events heard_are i k happened stands));
}
