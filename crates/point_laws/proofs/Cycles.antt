-- The start and each cycle of a design tell what they change of signals, thresholds and DOMAIN.
use Rattle.std.proofs.Common.{◌≡◌, refl, sym, ap, ◌∙◌, ℕ, suc, ◌+◌, ◌||◌, Bool, true, false, not, ℤ, List, [], ◌∷◌, ◌++◌, length, map, append_assoc, Option, Some, None, Result, Ok, Err, arith}
use Rattle.std.specs.List.{slice_set}
use Rattle.std.proofs.lemmas.List.{set_at, length_push, length-map}
use Rattle.ams_value.specs.declared.val.Val.{Val}
use Rattle.ams_value.specs.declared.val.Val.TheVariants as val
use Rattle.ams_value.specs.Values.{equals}
use Rattle.ams_value.specs.Laws.{values_decide}
use Rattle.flat_design.specs.declared.objects.Threshold.{Threshold}
use Rattle.flat_design.specs.declared.objects.Signal.{Signal}
use Rattle.flat_design.specs.declared.objects.Objects.{Objects}
use Rattle.step_data.specs.declared.trans.Trans.{Trans}
use Rattle.step_data.specs.declared.event.Event.{Event}
use Rattle.step_data.specs.declared.event.Event.TheVariants as event
use Rattle.step_data.specs.declared.outcome.Refusal.{Refusal}
use Rattle.step_data.specs.declared.outcome.Ran.TheVariants.{Done}
use Rattle.step_data.specs.Pending.{due}
use Rattle.step_data.specs.Thresholds.{is_above}
use Rattle.step_model.specs.System.{Digital}
use Rattle.design_meaning.specs.Readings.{Seen, still}
use Rattle.cycle_meaning.specs.World.{World, driven_of}
use Rattle.cycle_meaning.specs.Cycles.{event_if, with_thresholds, is_on, crossings, driving, queue_in, with_driving, signal_events, world_of, kept_in, ended, after_resumption, resumes, context_at, cycle, start, first_world, first_digital, Ran_of, all_ran, one_refused, run_all, start_all}
use Rattle.point_laws.specs.Told.{Told, told_after, told_over, EachPoint}
use Rattle.point_laws.proofs.Telling.{over_append, each_append}
use Rattle.point_laws.proofs.Giving.{NoPoint, Tells, ComesTo}
use Rattle.point_laws.proofs.Processes.{Keeps, world_behind, runs_keep, starts_keep}

-- ---- no points

threshold_points : (told : Told) (t n k : ℕ) (seen : List Seen) → EachPoint NoPoint told (crossings t n k seen)
threshold_points told t n k [] = tt
threshold_points told t n k (s ∷ more) =
    elim s.event as (λ b. EachPoint NoPoint told (event_if b (event.Cross t n k (is_on s.value)) ++ crossings t n (k + 1) more)) [
      | true ↦ threshold_points (told_after told (event.Cross t n k (is_on s.value))) t n (k + 1) more
      | false ↦ threshold_points told t n (k + 1) more
    ]

signal_points : (told : Told) (t n i : ℕ) (seen : List Seen) → EachPoint NoPoint told (signal_events t n i seen)
signal_points told t n i [] = tt
signal_points told t n i (s ∷ more) =
    elim s.event as (λ b. EachPoint NoPoint told (event_if b (event.Signal t n i s.value) ++ signal_events t n (i + 1) more)) [
      | true ↦ signal_points (told_after told (event.Signal t n i s.value)) t n (i + 1) more
      | false ↦ signal_points told t n (i + 1) more
    ]

domain_points : (told : Told) (t n : ℕ) (b : Bool) → EachPoint NoPoint told (event_if b (event.Domain t n))
domain_points told t n true = tt
domain_points told t n false = tt

-- ---- what was told comes to be what is seen

-- what is seen without an event is as before
abbrev Follows : {A : Type 0} → (Seen → A) → List A → List Seen → Type 0
Follows read [] [] = Unit {0}
Follows read [] (s ∷ seen) = ⊥
Follows read (v ∷ values) [] = ⊥
Follows read (v ∷ values) (s ∷ seen) = (s.event ≡ false → read s ≡ v) × Follows read values seen

moved : {A : Type 0} (front : List A) (b : A) (rest : List A) → (front ++ b ∷ []) ++ rest ≡ front ++ b ∷ rest
moved front b rest = append_assoc front (b ∷ []) rest

one_more : {A : Type 0} (front : List A) (b : A) (k : ℕ) → length front ≡ k → length (front ++ b ∷ []) ≡ k + 1
one_more front b k e = length_push front b ∙ ap (λ m. m + 1) e

abbrev with_kept : Told → List Bool → Told
with_kept told kept = record told { thresholds = kept }

abbrev on_of : Seen → Bool
on_of s = is_on s.value

thresholds_told : (told : Told) (t n k : ℕ) (kept : List Bool) (seen : List Seen) (front : List Bool) → length front ≡ k → told.thresholds ≡ front ++ kept → Follows on_of kept seen
    → told_over told (crossings t n k seen) ≡ with_kept told (front ++ map on_of seen)
thresholds_told told t n k [] [] front e h f = ap (with_kept told) h
thresholds_told told t n k [] (s ∷ seen) front e h f = absurd f
thresholds_told told t n k (b ∷ kept) [] front e h f = absurd f
thresholds_told told t n k (b ∷ kept) (s ∷ seen) front e h f =
    elim s.event as (λ c. s.event ≡ c → told_over told (event_if c (event.Cross t n k (on_of s)) ++ crossings t n (k + 1) seen) ≡ with_kept told (front ++ on_of s ∷ map on_of seen)) [
      | true ↦ λ changes.
          let now : slice_set told.thresholds k (on_of s) ≡ front ++ on_of s ∷ kept = ap (λ xs. slice_set xs k (on_of s)) h ∙ set_at front b kept (on_of s) k e in
          thresholds_told (told_after told (event.Cross t n k (on_of s))) t n (k + 1) kept seen (front ++ on_of s ∷ []) (one_more front (on_of s) k e) (now ∙ sym (moved front (on_of s) kept)) f.1
          ∙ ap (with_kept told) (moved front (on_of s) (map on_of seen))
      | false ↦ λ stays.
          thresholds_told told t n (k + 1) kept seen (front ++ on_of s ∷ []) (one_more front (on_of s) k e)
          (h ∙ ap (λ (a : Bool). front ++ a ∷ kept) (sym (f.0 stays)) ∙ sym (moved front (on_of s) kept)) f.1
          ∙ ap (with_kept told) (moved front (on_of s) (map on_of seen))
    ] refl

abbrev with_signals : Told → List Val → Told
with_signals told values = record told { signals = values }

abbrev value_seen : Seen → Val
value_seen s = s.value

signals_told : (told : Told) (t n i : ℕ) (values : List Val) (seen : List Seen) (front : List Val) → length front ≡ i → told.signals ≡ front ++ values → Follows value_seen values seen
    → told_over told (signal_events t n i seen) ≡ with_signals told (front ++ map value_seen seen)
signals_told told t n i [] [] front e h f = ap (with_signals told) h
signals_told told t n i [] (s ∷ seen) front e h f = absurd f
signals_told told t n i (v ∷ values) [] front e h f = absurd f
signals_told told t n i (v ∷ values) (s ∷ seen) front e h f =
    elim s.event as (λ c. s.event ≡ c → told_over told (event_if c (event.Signal t n i s.value) ++ signal_events t n (i + 1) seen) ≡ with_signals told (front ++ s.value ∷ map value_seen seen)) [
      | true ↦ λ changes.
          let now : slice_set told.signals i s.value ≡ front ++ s.value ∷ values = ap (λ xs. slice_set xs i s.value) h ∙ set_at front v values s.value i e in
          signals_told (told_after told (event.Signal t n i s.value)) t n (i + 1) values seen (front ++ s.value ∷ []) (one_more front s.value i e) (now ∙ sym (moved front s.value values)) f.1
          ∙ ap (with_signals told) (moved front s.value (map value_seen seen))
      | false ↦ λ stays.
          signals_told told t n (i + 1) values seen (front ++ s.value ∷ []) (one_more front s.value i e)
          (h ∙ ap (λ (a : Val). front ++ a ∷ values) (sym (f.0 stays)) ∙ sym (moved front s.value values)) f.1
          ∙ ap (with_signals told) (moved front s.value (map value_seen seen))
    ] refl

-- ---- thresholds and driving values

-- a change that is no event is none
unchanged : (v w : Val) → not (equals v w) ≡ false → w ≡ v
unchanged v w e = sym ((values_decide v w).0 (same (equals v w) e))
  where
    same : (b : Bool) → not b ≡ false → b ≡ true
    same true h = refl
    same false h = cc

thresholds_follow : (x : List ℤ) (ks : List Threshold) (kept : List Bool) → length kept ≡ length ks → Follows on_of kept (with_thresholds x ks kept)
thresholds_follow x [] [] e = tt
thresholds_follow x [] (b ∷ kept) e = absurd (omega (arith, e))
thresholds_follow x (k ∷ ks) [] e = absurd (omega (arith, e))
thresholds_follow x (k ∷ ks) (b ∷ kept) e =
    (λ quiet. ap is_on (unchanged (val.Bool b) (val.Bool (is_above x k.quantity k.level)) quiet), thresholds_follow x ks kept (omega (arith, e)))

thresholds_count : (x : List ℤ) (ks : List Threshold) (kept : List Bool) → length (with_thresholds x ks kept) ≡ length ks
thresholds_count x [] kept = refl
thresholds_count x (k ∷ ks) [] = ap suc (thresholds_count x ks [])
thresholds_count x (k ∷ ks) (b ∷ kept) = ap suc (thresholds_count x ks kept)

driving_follows : (v : Val) (o : Option Trans) → (driving (still v) o).event ≡ false → (driving (still v) o).value ≡ v
driving_follows v None e = refl
driving_follows v (Some a) e = unchanged v a.value e

signals_follow : (t : ℕ) (driven : List ℕ) (queues : List (List Trans)) (i : ℕ) (values : List Val) → Follows value_seen values (with_driving t driven queues i values)
signals_follow t driven queues i [] = tt
signals_follow t driven queues i (v ∷ values) = (driving_follows v (due t (queue_in i driven queues)), signals_follow t driven queues (i + 1) values)

-- ---- the beginning of a cycle

-- what was told stands for a world: the values of its signals and thresholds
record TellsWorld (told : Told) (w : World) : Type 0 where
  signals : told.signals ≡ map value_seen w.signals
  thresholds_are : told.thresholds ≡ kept_in w

-- DOMAIN first
record TellsDomain (told now : Told) (timed : Bool) : Type 0 where
  signals : now.signals ≡ told.signals
  thresholds_are : now.thresholds ≡ told.thresholds
  branches_are : now.branches ≡ told.branches
  timed_is : now.timed ≡ timed

or_true : (b : Bool) → true ≡ (b || true)
or_true true = refl
or_true false = refl

or_false : (b : Bool) → b ≡ (b || false)
or_false true = refl
or_false false = refl

domain_told : (told : Told) (t n : ℕ) (b : Bool) → TellsDomain told (told_over told (event_if b (event.Domain t n))) (told.timed || b)
domain_told told t n true = record { signals = refl; thresholds_are = refl; branches_are = refl; timed_is = or_true told.timed }
domain_told told t n false = record { signals = refl; thresholds_are = refl; branches_are = refl; timed_is = or_false told.timed }

-- behind the events at the beginning of a cycle
record BeginsAs (told now : Told) (w : World) (timed : Bool) : Type 0 where
  world : TellsWorld now w
  branches_are : now.branches ≡ told.branches
  timed_is : now.timed ≡ timed

module _ (objects : Objects) where
  begun_points : (told : Told) (d : Digital) (t n : ℕ) (x : List ℤ) (to_time : Bool) → EachPoint NoPoint told (world_of objects d t n x to_time).events
  begun_points told d t n x to_time =
      each_append NoPoint told (domains ++ levels) values
      (each_append NoPoint told domains levels (domain_points told t n to_time) (threshold_points (told_over told domains) t n 0 (world_of objects d t n x to_time).thresholds))
      (signal_points (told_over told (domains ++ levels)) t n 0 (world_of objects d t n x to_time).signals)
    where
      domains : List Event
      domains = event_if to_time (event.Domain t n)

      levels : List Event
      levels = crossings t n 0 (world_of objects d t n x to_time).thresholds

      values : List Event
      values = signal_events t n 0 (world_of objects d t n x to_time).signals

  begun_told : (told : Told) (d : Digital) (t n : ℕ) (x : List ℤ) (to_time : Bool) → Tells (length objects.thresholds) told d
      → BeginsAs told (told_over told (world_of objects d t n x to_time).events) (world_of objects d t n x to_time) (d.timed || to_time)
  begun_told told d t n x to_time tells =
      record {
        world = record { signals = ap (λ (u : Told). u.signals) whole; thresholds_are = ap (λ (u : Told). u.thresholds) whole };
        branches_are = ap (λ (u : Told). u.branches) whole ∙ by_domain.branches_are;
        timed_is = ap (λ (u : Told). u.timed) whole ∙ (by_domain.timed_is ∙ ap (λ b. b || to_time) tells.domain);
      }
    where
      domains : List Event
      domains = event_if to_time (event.Domain t n)

      levels : List Event
      levels = crossings t n 0 (world_of objects d t n x to_time).thresholds

      values : List Event
      values = signal_events t n 0 (world_of objects d t n x to_time).signals

      first : Told
      first = told_over told domains

      by_domain : TellsDomain told first (told.timed || to_time)
      by_domain = domain_told told t n to_time

      second : told_over first levels ≡ with_kept first (kept_in (world_of objects d t n x to_time))
      second =
          thresholds_told first t n 0 d.kept (with_thresholds x objects.thresholds d.kept) [] refl (by_domain.thresholds_are ∙ tells.thresholds_are)
          (thresholds_follow x objects.thresholds d.kept tells.count)

      third : told_over (with_kept first (kept_in (world_of objects d t n x to_time))) values ≡ with_signals (with_kept first (kept_in (world_of objects d t n x to_time))) (map value_seen (world_of objects d t n x to_time).signals)
      third =
          signals_told (with_kept first (kept_in (world_of objects d t n x to_time))) t n 0 d.signals (with_driving t (driven_of objects) d.queues 0 d.signals) [] refl (by_domain.signals ∙ tells.signals)
          (signals_follow t (driven_of objects) d.queues 0 d.signals)

      whole : told_over told (world_of objects d t n x to_time).events ≡ with_signals (with_kept first (kept_in (world_of objects d t n x to_time))) (map value_seen (world_of objects d t n x to_time).signals)
      whole = over_append told (domains ++ levels) values ∙ (ap (λ (u : Told). told_over u values) (over_append told domains levels ∙ second) ∙ third)

  -- ---- how a cycle ends

  ended_points : (told : Told) (d : Digital) (t : ℕ) (timed : Bool) (r : Ran_of) → EachPoint NoPoint told (world_behind r).events → EachPoint NoPoint told (ended d t timed r).events
  ended_points told d t timed (all_ran w states) h = h
  ended_points told d t timed (one_refused w r) h = h

  ended_comes : (told : Told) (d : Digital) (t : ℕ) (timed broke : Bool) (w : World) (r : Ran_of) → BeginsAs told (told_over told w.events) w timed → length w.thresholds ≡ length objects.thresholds → Keeps w (world_behind r)
      → (ended d t timed r).ran ≡ Done broke → ComesTo (length objects.thresholds) told (ended d t timed r).events (ended d t timed r).digital timed
  ended_comes told d t timed broke w (all_ran v states) begins count keeps e =
      let now : told_over told v.events ≡ told_over told w.events = keeps.told told in
      record {
        tells = record {
          signals = ap (λ (u : Told). u.signals) now ∙ (begins.world.signals ∙ ap (λ (seen : List Seen). map value_seen seen) (sym keeps.signals));
          thresholds_are = ap (λ (u : Told). u.thresholds) now ∙ (begins.world.thresholds_are ∙ ap (λ (seen : List Seen). map on_of seen) (sym keeps.thresholds));
          count = length-map v.thresholds on_of ∙ (ap (λ (seen : List Seen). length seen) keeps.thresholds ∙ count);
          domain = ap (λ (u : Told). u.timed) now ∙ begins.timed_is;
        };
        branches = ap (λ (u : Told). u.branches) now ∙ begins.branches_are;
        timed_is = refl;
      }
  ended_comes told d t timed broke w (one_refused v r) begins count keeps e = cc

  after_points : (told : Told) (d : Digital) (t n : ℕ) (x : List ℤ) (timed : Bool) (w : World) (o : Result (List Bool) Refusal) → EachPoint NoPoint told w.events
      → EachPoint NoPoint told (after_resumption objects d t n x timed w o).events
  after_points told d t n x timed w (Ok resumed) h =
      ended_points told d t timed (run_all (context_at objects t n x) 0 objects.processes d.processes resumed w)
      ((runs_keep (context_at objects t n x) 0 objects.processes d.processes resumed w).points told h)
  after_points told d t n x timed w (Err r) h = h

  after_comes : (told : Told) (d : Digital) (t n : ℕ) (x : List ℤ) (timed broke : Bool) (w : World) (o : Result (List Bool) Refusal) → BeginsAs told (told_over told w.events) w timed → length w.thresholds ≡ length objects.thresholds
      → (after_resumption objects d t n x timed w o).ran ≡ Done broke
      → ComesTo (length objects.thresholds) told (after_resumption objects d t n x timed w o).events (after_resumption objects d t n x timed w o).digital timed
  after_comes told d t n x timed broke w (Ok resumed) begins count e =
      ended_comes told d t timed broke w (run_all (context_at objects t n x) 0 objects.processes d.processes resumed w) begins count
      (runs_keep (context_at objects t n x) 0 objects.processes d.processes resumed w) e
  after_comes told d t n x timed broke w (Err r) begins count e = cc

  pub cycle_points : (told : Told) (d : Digital) (t n : ℕ) (x : List ℤ) (to_time : Bool) → EachPoint NoPoint told (cycle objects d t n x to_time).events
  unfolding cycle
  cycle_points told d t n x to_time =
      after_points told d t n x (d.timed || to_time) (world_of objects d t n x to_time)
      (resumes (context_at objects t n x) (world_of objects d t n x to_time) 0 objects.processes d.processes) (begun_points told d t n x to_time)

  pub cycle_comes : (told : Told) (d : Digital) (t n : ℕ) (x : List ℤ) (to_time broke : Bool) → Tells (length objects.thresholds) told d → (cycle objects d t n x to_time).ran ≡ Done broke
      → ComesTo (length objects.thresholds) told (cycle objects d t n x to_time).events (cycle objects d t n x to_time).digital (d.timed || to_time)
  unfolding cycle
  cycle_comes told d t n x to_time broke tells e =
      after_comes told d t n x (d.timed || to_time) broke (world_of objects d t n x to_time)
      (resumes (context_at objects t n x) (world_of objects d t n x to_time) 0 objects.processes d.processes)
      (begun_told told d t n x to_time tells) (thresholds_count x objects.thresholds d.kept) e

  -- ---- the start

  first_values : (signals : List Signal) → map value_seen (map (λ (s : Signal). still s.initial) signals) ≡ map (λ (s : Signal). s.initial) signals
  first_values [] = refl
  first_values (s ∷ signals) = ap (λ values. s.initial ∷ values) (first_values signals)

  first_kept : (ks : List Threshold) → map on_of (map (λ (k : Threshold). still (val.Bool false)) ks) ≡ map (λ (k : Threshold). false) ks
  first_kept [] = refl
  first_kept (k ∷ ks) = ap (λ kept. false ∷ kept) (first_kept ks)

  first_begins : (told : Told) → Tells (length objects.thresholds) told (first_digital objects) → BeginsAs told told (first_world objects) false
  first_begins told tells =
      record {
        world = record { signals = tells.signals ∙ sym (first_values objects.signals); thresholds_are = tells.thresholds_are ∙ sym (first_kept objects.thresholds) };
        branches_are = refl;
        timed_is = tells.domain;
      }

  pub start_points : (told : Told) (x : List ℤ) → EachPoint NoPoint told (start objects x).events
  unfolding start
  start_points told x =
      ended_points told (first_digital objects) 0 false (start_all (context_at objects 0 0 x) 0 objects.processes (first_world objects))
      ((starts_keep (context_at objects 0 0 x) 0 objects.processes (first_world objects)).points told tt)

  pub start_comes : (told : Told) (x : List ℤ) (broke : Bool) → Tells (length objects.thresholds) told (first_digital objects) → (start objects x).ran ≡ Done broke
      → ComesTo (length objects.thresholds) told (start objects x).events (start objects x).digital false
  unfolding start
  start_comes told x broke tells e =
      ended_comes told (first_digital objects) 0 false broke (first_world objects) (start_all (context_at objects 0 0 x) 0 objects.processes (first_world objects))
      (first_begins told tells) (length-map objects.thresholds (λ (k : Threshold). still (val.Bool false)))
      (starts_keep (context_at objects 0 0 x) 0 objects.processes (first_world objects)) e
