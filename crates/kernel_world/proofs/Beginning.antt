-- The world at the beginning of a cycle is that of the definition.
use Rattle.std.proofs.Common.{◌≡◌, ◌<◌, ◌≤◌, ℕ, zero, suc, Bool, true, false, ℤ, List, [], ◌∷◌, ◌++◌, length, map, get_or, refl, sym, ap, subst, ◌∙◌, arith}
use Rattle.std.specs.Prelude.{Option, IfSome}
use Rattle.std.specs.List.{All}
use Rattle.std.proofs.lemmas.List.Elements.{All-head, All-tail, All-cons, All-nil}
use Rattle.ams_value.specs.declared.val.Val.{Val}
use Rattle.flat_design.specs.declared.objects.Threshold.{Threshold}
use Rattle.flat_design.specs.declared.objects.Objects.{Objects}
use Rattle.step_data.specs.declared.trans.Trans.{Trans}
use Rattle.step_data.specs.declared.event.Event.{Event}
use Rattle.step_data.specs.declared.breaks.Element.{Element}
use Rattle.step_data.specs.declared.breaks.ThresholdState.{ThresholdState}
use Rattle.step_data.specs.Pending.{advanced}
use Rattle.step_model.specs.System.{Digital}
use Rattle.step_model.specs.Kernel.{AddsFront}
use Rattle.waveform.specs.Projected.{IsRising}
use Rattle.design_meaning.specs.Readings.{Seen}
use Rattle.cycle_meaning.specs.World.{World as CycleWorld, Context, driven_of}
use Rattle.cycle_meaning.specs.Cycles.{first_time, is_on, with_thresholds, with_driving, threshold_states, domain_in, world_of as begun_world}
use Rattle.threshold_set.specs.Crossed.{silenced, off, sights, sights_of, crossed, crossed_of, after}
use Rattle.threshold_set.proofs.Laws.{laws}
use Rattle.driver_set.specs.Queues.{AreLate, AreRising, times_of}
use Rattle.driving_values.specs.Driving.{IsOrdered}
use Rattle.driven_signals.proofs.Laws.{ordered}
use Rattle.cycle_changes.specs.Changes.{events_of}
use Rattle.kernel_world.specs.Reading.{seens, domain_value}
use Rattle.kernel_world.specs.Acting.{world_of}
use Rattle.kernel_world.specs.Beginning.{IsLeft, IsEntered, behind}
use Rattle.kernel_world.specs.declared.world.World.{World}

-- ---- no transaction stands before the first of all

abbrev AtLeast : ℕ → Option ℕ → Type 0
AtLeast t time = IfSome time (λ u. t ≤ u)

from_first : (t : ℕ) (queue : List Trans) → IsRising queue → AtLeast t (first_time queue) → All (λ (x : Trans). t ≤ x.at) queue
from_first t [] rising h = All-nil (λ (x : Trans). t ≤ x.at)
from_first t (x ∷ queue) rising h = at
  where
    at : (k : ℕ) (d : Trans) → k < length (x ∷ queue) → t ≤ (get_or (x ∷ queue) k d).at
    at zero d inside = h
    at (suc k) d inside = let less : x.at < (get_or queue k d).at = rising 0 (suc k) d (omega arith) inside in omega arith

pub late_of : (t : ℕ) (queues : List (List Trans)) → AreRising queues → All (AtLeast t) (times_of queues) → AreLate t queues
late_of t [] rising h = All-nil (λ (queue : List Trans). All (λ (x : Trans). t ≤ x.at) queue)
late_of t (q ∷ queues) rising h =
    All-cons (λ (queue : List Trans). All (λ (x : Trans). t ≤ x.at) queue) q queues
    (from_first t q (All-head (λ (queue : List Trans). IsRising queue) q queues rising) (All-head (AtLeast t) (first_time q) (times_of queues) h))
    (late_of t queues (All-tail (λ (queue : List Trans). IsRising queue) q queues rising) (All-tail (AtLeast t) (first_time q) (times_of queues) h))

-- ---- the state that is kept

pub values_of_seens : (values : List Val) (events : List Bool) → length events ≡ length values → map (λ (s : Seen). s.value) (seens values events) ≡ values
values_of_seens [] events e = refl
values_of_seens (v ∷ values) [] e = absurd (omega arith)
values_of_seens (v ∷ values) (b ∷ events) e = ap (λ l. v ∷ l) (values_of_seens values events (omega arith))

same_threshold : (s : ThresholdState) (k : Threshold) → silenced s ≡ off k → s ≡ record { unknown = k.quantity; level = k.level; on = s.on }
same_threshold s k e =
    let u : s.unknown ≡ k.quantity = ap (λ (x : ThresholdState). x.unknown) e in
    let l : s.level ≡ k.level = ap (λ (x : ThresholdState). x.level) e in
    rw (← u, ← l) refl

pub kept_states : (ks : List Threshold) (states : List ThresholdState) (events : List Bool) → map silenced states ≡ map off ks → length events ≡ length states
    → states ≡ threshold_states ks (map (λ (s : Seen). is_on s.value) (sights_of states events))
kept_states [] [] events e l = refl
kept_states [] (s ∷ states) events e l = absurd (cc)
kept_states (k ∷ ks) [] events e l = absurd (cc)
kept_states (k ∷ ks) (s ∷ states) [] e l = absurd (omega arith)
kept_states (k ∷ ks) (s ∷ states) (b ∷ events) e l =
    let head : silenced s ≡ off k = cc in
    let tail : map silenced states ≡ map off ks = cc in
    ap (λ (x : ThresholdState). x ∷ states) (same_threshold s k head)
    ∙ ap (λ more. record { unknown = k.quantity; level = k.level; on = s.on } ∷ more) (kept_states ks states events tail (omega arith))

same_domain : (a b : Bool) → domain_value a ≡ domain_value b → a ≡ b
same_domain true true e = refl
same_domain false false e = refl
same_domain true false e = absurd (cc)
same_domain false true e = absurd (cc)

-- ---- the parts of the world

pub thresholds_begin : (ks : List Threshold) (x : List ℤ) (kept : List Bool) (states : List ThresholdState) (events : List Bool)
    → map silenced states ≡ map off ks → length events ≡ length states → kept ≡ map (λ (s : Seen). is_on s.value) (sights_of states events)
    → crossed_of x states ≡ with_thresholds x ks kept
thresholds_begin ks x kept states events same l e =
    ap (crossed_of x) (kept_states ks states events same l) ∙ laws.signals x ks (map (λ (s : Seen). is_on s.value) (sights_of states events)) ∙ ap (with_thresholds x ks) (sym e)

pub sights_begin : (x : List ℤ) (states now : List ThresholdState) (events : List Bool) → now ≡ map (after x) states
    → events ≡ map (λ (s : ThresholdState). (crossed x s).event) states → sights_of now events ≡ crossed_of x states
sights_begin x states now events es ee = rw (es, ee) (laws.read x states)

pub signals_begin : (t : ℕ) (driven numbers : List ℕ) (dqueues queues : List (List Trans)) (dsignals values : List Val) (events : List Bool)
    → numbers ≡ driven → dqueues ≡ queues → length events ≡ length values → dsignals ≡ map (λ (s : Seen). s.value) (seens values events)
    → with_driving t numbers queues 0 values ≡ with_driving t driven dqueues 0 dsignals
signals_begin t driven numbers dqueues queues dsignals values events en eq l es =
    let ev : dsignals ≡ values = es ∙ values_of_seens values events l in
    rw (en, eq, ev) refl

-- ---- the world

pub world_begins : (objects : Objects) (d : Digital) (t n : ℕ) (x : List ℤ) (to_time timed broke : Bool) (before events : List Event) (signals thresholds : List Seen) (domain : Seen)
    (queues now : List (List Trans)) (elements : List Element)
    → domain_value d.timed ≡ domain_value timed → domain ≡ domain_in timed to_time → d.queues ≡ queues → now ≡ map (advanced t) queues
    → thresholds ≡ with_thresholds x objects.thresholds d.kept → signals ≡ with_driving t (driven_of objects) d.queues 0 d.signals
    → elements ≡ [] → broke ≡ false → events ≡ before ++ (begun_world objects d t n x to_time).events
    → (let w : CycleWorld = record { signals = signals; thresholds = thresholds; domain = domain; queues = now; elements = elements; broke = broke; events = events } in
    w ≡ behind before (begun_world objects d t n x to_time))
world_begins objects d t n x to_time timed broke before events signals thresholds domain queues now elements ed edom eq en et es el eb ee =
    let ex : d.timed ≡ timed = same_domain d.timed timed ed in
    rw (edom, en, ← eq, ← ex, el, eb, ee, et, es) refl

pub events_begin : (objects : Objects) (d : Digital) (t n : ℕ) (x : List ℤ) (to_time : Bool) (signals thresholds : List Seen)
    → thresholds ≡ with_thresholds x objects.thresholds d.kept → signals ≡ with_driving t (driven_of objects) d.queues 0 d.signals
    → events_of to_time t n thresholds signals ≡ (begun_world objects d t n x to_time).events
events_begin objects d t n x to_time signals thresholds et es = rw (et, es) refl

pub same_front : (old1 old2 new added1 added2 : List Event) → old1 ≡ old2 → added1 ≡ added2 → AddsFront old1 new added1 → AddsFront old2 new added2
same_front old1 old2 new added1 added2 e g h =
    let P : List Event → List Event → Type 0 = λ old added. AddsFront old new added in
    subst (P old2) g (let Q : List Event → Type 0 = λ old. P old added1 in subst Q e h)

-- ---- where the moment was taken over

pub entered_thresholds : (old now : World) (t n : ℕ) (x : List ℤ) (to_time : Bool) (d : Digital) → IsEntered old now t n x to_time → IsLeft d (world_of old)
    → crossed_of now.point now.thresholds.states ≡ with_thresholds x old.flat.now.thresholds d.kept
entered_thresholds old now t n x to_time d g left =
    let point : now.point ≡ x = ap (λ (h : Context). h.x) g.context in
    let objects : now.flat.now ≡ old.flat.now = ap (λ (h : Context). h.objects) g.context in
    let seen : sights now.thresholds ≡ sights old.thresholds = ap (λ (w : CycleWorld). w.thresholds) g.world in
    let kept : d.kept ≡ map (λ (s : Seen). is_on s.value) (sights now.thresholds) = left.kept ∙ ap (map (λ (s : Seen). is_on s.value)) (sym seen) in
    thresholds_begin now.flat.now.thresholds now.point d.kept now.thresholds.states now.thresholds.events now.places.thresholds now.places.as_many kept
    ∙ ap (λ (p : List ℤ). with_thresholds p now.flat.now.thresholds d.kept) point
    ∙ ap (λ (o : Objects). with_thresholds x o.thresholds d.kept) objects

pub entered_signals : (old now : World) (t n : ℕ) (x : List ℤ) (to_time : Bool) (d : Digital) → IsEntered old now t n x to_time → IsLeft d (world_of old)
    → length now.signals.events ≡ length now.signals.values → with_driving t now.numbers now.drivers 0 now.signals.values ≡ with_driving t (driven_of old.flat.now) d.queues 0 d.signals
entered_signals old now t n x to_time d g left l =
    let objects : now.flat.now ≡ old.flat.now = ap (λ (h : Context). h.objects) g.context in
    let numbers : now.numbers ≡ driven_of old.flat.now = now.sound.driven_are ∙ ap driven_of objects in
    let queues : d.queues ≡ now.drivers = left.queues ∙ sym (ap (λ (w : CycleWorld). w.queues) g.world) in
    let seen : seens now.signals.values now.signals.events ≡ seens old.signals.values old.signals.events = ap (λ (w : CycleWorld). w.signals) g.world in
    let values : d.signals ≡ map (λ (s : Seen). s.value) (seens now.signals.values now.signals.events) = left.signals ∙ ap (map (λ (s : Seen). s.value)) (sym seen) in
    signals_begin t (driven_of old.flat.now) now.numbers d.queues now.drivers d.signals now.signals.values now.signals.events numbers queues l values

-- the numbers of driven signals are in order, and each is one of the signals
pub entered_order : (now : World) → IsOrdered (length now.signals.values) now.numbers
entered_order now =
    rw (now.places.signals, now.sound.driven_are) (ordered now.flat.now)
