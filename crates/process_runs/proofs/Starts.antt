-- One more process has started.
use Rattle.std.proofs.Common.{◌≡◌, ◌⊎◌, inl, inr, refl, sym, ◌∙◌, ap, subst, ℕ, zero, suc, ◌+◌, ◌<◌, ◌≤◌, List, [], ◌∷◌, ◌++◌, length, length-append, append-nil, slice_set, length-set, map, add-one, Some, None, Result, Ok, Err, arith}
use Rattle.std.specs.Prelude.{OnOk}
use Rattle.std.specs.List.{slice_get, All}
use Rattle.std.proofs.lemmas.Option.{slice_get_within, get_or_from_slice_get}
use Rattle.flat_design.specs.declared.objects.Variable.{Variable}
use Rattle.flat_design.specs.declared.objects.Process.{Process}
use Rattle.step_model.specs.System.{ProcessState}
use Rattle.ams_value.specs.declared.val.Val.{Val}
use Rattle.cycle_meaning.specs.Task.{statements}
use Rattle.cycle_meaning.specs.World.{World, Context}
use Rattle.cycle_meaning.specs.Processes.{run, statement_budget, state_of, body_of}
use Rattle.cycle_meaning.specs.Cycles.{Ran_of, all_ran, one_refused, start_all}
use Rattle.design_rules.specs.Design.{IsProcess}
use Rattle.statement_lists.specs.declared.fault.ListFault.{ListFault}
use Rattle.statement_lists.specs.declared.fault.ListFault.TheVariants as fault
use Rattle.process_place.specs.ProcessPlace.{at_start, tasks_at}
use Rattle.process_place.specs.Moves.{run_at}
use Rattle.process_place.specs.Follows.{stop_in}
use Rattle.process_place.proofs.Following.{follows}
use Rattle.process_place.proofs.Keeping.{places_are_kept}
use Rattle.process_stack.specs.Stacks.{Stacked, place_of}
use Rattle.proc_exec.specs.Running.{StandsReady, IsFront}
use Rattle.process_rest.specs.Resting.{IsWorld, at_first}
use Rattle.process_rest.proofs.ReadyAgain.{starts_ready}
use Rattle.process_runs.specs.Kept.{Kept, place_kept, with_own, state_kept, states_kept, numbered, IsWaiting, IsUnstarted, AreUnstarted, CanRun, CanStart}
use Rattle.process_runs.specs.Ran.{Rested, RunEnds, AllEnd, NextEnds, started_from}
use Rattle.process_runs.proofs.Rests.{ready_there, waits}
use Rattle.process_runs.proofs.Worlds.{world_for, world_there, contexts_same}
use Rattle.process_runs.proofs.Fronts.{run_front, events_at, events_same, StartFront, first_local}
use Rattle.process_runs.proofs.Ran.{states_length, state_with, started_next, started_refused, started_front, started_end, started_begins}
use Rattle.process_runs.proofs.Nexts.{got_set, there, sound_of, fails_with}

rule_of : (here : Context) (ps : List Process) (n : ℕ) (p : Process) → All (IsProcess here.objects) ps → slice_get ps n ≡ Some p → IsProcess here.objects p
rule_of here ps n p all h = subst (IsProcess here.objects) (get_or_from_slice_get ps n p p h) (all n p (slice_get_within ps n p h))

pub stands_first : (n : ℕ) (here : Context) (w : World) (ps : List Process) (ks : List Kept) (p : Process) (k : Kept) → CanStart n here w ps ks → slice_get ps n ≡ Some p → slice_get ks n ≡ Some k
    → StandsReady (numbered here n) (with_own w k) p.statements k.stack
stands_first n here w ps ks p k can hp hk =
    let un : IsUnstarted p k = can.unstarted n p k (omega arith) hp hk in
    subst (λ (s : Stacked). StandsReady (numbered here n) (with_own w k) p.statements s) (sym un.stack)
    (subst (λ (vs : List Val). StandsReady (numbered here n) (record { world = w; variables = vs }) p.statements at_first) (sym un.variables)
    (starts_ready (numbered here n) w p (there here ps n p can.processes hp) (rule_of here ps n p can.rules hp) (world_for here n w can.world)))

-- the run of the definition is the run from the first statement
starts_so : (here : Context) (p : Process) (v : World) → slice_get here.objects.processes here.process ≡ Some p
    → run statement_budget here (first_local v p) (statements p.statements) ≡ stop_in p.statements (run_at statement_budget here p.statements (first_local v p) at_start)
starts_so here p v is =
    ap (run statement_budget here (first_local v p)) (sym (append-nil (statements p.statements)))
    ∙ follows.runs here p.statements statement_budget (first_local v p) at_start (ap body_of is) tt

start_fronts : (n : ℕ) (here : Context) (w : World) (ps : List Process) (ks : List Kept) → CanStart n here w ps ks → StartFront (numbered here) 0 ps
start_fronts n here w ps ks can =
    record {
      each = λ i j p v e hp.
          let same : j ≡ i = omega (arith, e) in
          subst (λ (m : ℕ). IsFront v.events (events_at (run statement_budget (numbered here m) (first_local v p) (statements p.statements)))) (sym same)
          (subst (λ z. IsFront v.events (events_at z)) (sym (starts_so (numbered here i) p v (there here ps i p can.processes hp)))
          (subst (IsFront v.events) (sym (events_same p.statements (run_at statement_budget (numbered here i) p.statements (first_local v p) at_start)))
          (run_front statement_budget (numbered here i) p.statements (first_local v p) at_start)));
    }

-- from what is kept
from_kept : (here : Context) (w : World) (p : Process) (k : Kept) → IsUnstarted p k → run_at statement_budget here p.statements (with_own w k) (place_kept p k) ≡ run_at statement_budget here p.statements (first_local w p) at_start
from_kept here w p k un =
    ap (λ (vs : List Val). run_at statement_budget here p.statements (record { world = w; variables = vs }) (place_kept p k)) un.variables
    ∙ ap (λ (s : Stacked). run_at statement_budget here p.statements (first_local w p) (place_of p.statements s)) un.stack

first_so : (n : ℕ) (here : Context) (w : World) (ps : List Process) (ks : List Kept) (p : Process) (k : Kept) → CanStart n here w ps ks → slice_get ps n ≡ Some p → slice_get ks n ≡ Some k
    → run statement_budget (numbered here n) (first_local w p) (statements p.statements) ≡ stop_in p.statements (run_at statement_budget (numbered here n) p.statements (with_own w k) (place_kept p k))
first_so n here w ps ks p k can hp hk =
    starts_so (numbered here n) p w (there here ps n p can.processes hp)
    ∙ ap (stop_in p.statements) (sym (from_kept (numbered here n) w p k (can.unstarted n p k (omega arith) hp hk)))

waits_first : (n : ℕ) (here : Context) (w v : World) (ps : List Process) (ks : List Kept) (p : Process) (k now : Kept) → CanStart n here w ps ks → slice_get ps n ≡ Some p → slice_get ks n ≡ Some k
    → (r : Rested (numbered here n) p now v (run_at statement_budget (numbered here n) p.statements (with_own w k) (place_kept p k)))
    → (state_of p.variables now.wait now.timeout (tasks_at p.statements (place_kept p now)) r.after ≡ state_kept p now) × IsWaiting here.objects n p now
waits_first n here w v ps ks p k now can hp hk r =
    waits (numbered here n) p now v (with_own w k) k.stack (there here ps n p can.processes hp) (stands_first n here w ps ks p k can hp hk) r
    (places_are_kept.from_start p
    (sound_of (numbered here n) p (with_own w k) (ready_there (numbered here n) p (with_own w k) k.stack (there here ps n p can.processes hp) (stands_first n here w ps ks p k can hp hk)))
    statement_budget (numbered here n) w now.wait now.timeout (place_kept p now) r.after (there here ps n p can.processes hp)
    (sym (from_kept (numbered here n) w p k (can.unstarted n p k (omega arith) hp hk)) ∙ r.ends))

inside_states : (n : ℕ) (here : Context) (w : World) (ps : List Process) (ks : List Kept) (p : Process) → CanStart n here w ps ks → slice_get ps n ≡ Some p → n < length (states_kept ps ks)
inside_states n here w ps ks p can hp = subst (λ (m : ℕ). n < m) (sym (states_length ps ks can.count)) (slice_get_within ps n p hp)

rested_first : (n : ℕ) (here : Context) (w v : World) (ps : List Process) (ks : List Kept) (p : Process) (k now : Kept) → CanStart n here w ps ks → slice_get ps n ≡ Some p → slice_get ks n ≡ Some k
    → Rested (numbered here n) p now v (run_at statement_budget (numbered here n) p.statements (with_own w k) (place_kept p k))
    → started_from n (numbered here) 0 ps (states_kept ps ks) w ≡ started_from (n + 1) (numbered here) 0 ps (states_kept ps (slice_set ks n now)) v
rested_first n here w v ps ks p k now can hp hk r =
    started_next n (numbered here) 0 n ps (states_kept ps ks) w p now.wait now.timeout (tasks_at p.statements (place_kept p now)) r.after (omega arith) hp (inside_states n here w ps ks p can hp)
    (first_so n here w ps ks p k can hp hk ∙ ap (stop_in p.statements) r.ends)
    ∙ (ap (λ (s : ProcessState). started_from (suc n) (numbered here) 0 ps (slice_set (states_kept ps ks) n s) r.after.world) (waits_first n here w v ps ks p k now can hp hk r).0
    ∙ (ap (λ (z : List ProcessState). started_from (suc n) (numbered here) 0 ps z r.after.world) (sym (state_with ps ks n p now hp))
    ∙ (ap (λ (z : World). started_from (suc n) (numbered here) 0 ps (states_kept ps (slice_set ks n now)) z) r.world
    ∙ ap (λ (m : ℕ). started_from m (numbered here) 0 ps (states_kept ps (slice_set ks n now)) v) (sym (add-one n)))))

pub first_ends : (n : ℕ) (here : Context) (w v : World) (ps : List Process) (ks : List Kept) (p : Process) (k now : Kept) (r : Result Unit ListFault)
    → CanStart n here w ps ks → slice_get ps n ≡ Some p → slice_get ks n ≡ Some k
    → RunEnds (numbered here n) p now v (run_at statement_budget (numbered here n) p.statements (with_own w k) (place_kept p k)) r
    → NextEnds (started_from n (numbered here) 0 ps (states_kept ps ks) w) (started_from (n + 1) (numbered here) 0 ps (states_kept ps (slice_set ks n now)) v) v r
first_ends n here w v ps ks p k now (Ok u) can hp hk e = rested_first n here w v ps ks p k now can hp hk e
first_ends n here w v ps ks p k now (Err (fault.Refused f)) can hp hk e =
    started_refused n (numbered here) 0 n ps (states_kept ps ks) w p e.0 f (omega arith) hp (inside_states n here w ps ks p can hp)
    (first_so n here w ps ks p k can hp hk ∙ ap (stop_in p.statements) e.1)
    ∙ ap (λ (z : World). one_refused z f) e.2
first_ends n here w v ps ks p k now (Err fault.Memory) can hp hk e =
    started_front n (numbered here) 0 n ps (states_kept ps ks) w p v.events (omega arith) hp (inside_states n here w ps ks p can hp) (start_fronts n here w ps ks can)
    (subst (λ z. IsFront v.events (events_at z)) (sym (first_so n here w ps ks p k can hp hk))
    (subst (IsFront v.events) (sym (events_same p.statements (run_at statement_budget (numbered here n) p.statements (with_own w k) (place_kept p k)))) e))

-- and the others can start
rested_starts : (n : ℕ) (here : Context) (w v : World) (ps : List Process) (ks : List Kept) (p : Process) (k now : Kept) → CanStart n here w ps ks → slice_get ps n ≡ Some p → slice_get ks n ≡ Some k
    → Rested (numbered here n) p now v (run_at statement_budget (numbered here n) p.statements (with_own w k) (place_kept p k)) → CanStart (n + 1) (numbered here n) v ps (slice_set ks n now)
rested_starts n here w v ps ks p k now can hp hk r =
    record {
      processes = can.processes;
      few = can.few;
      count = length-set ks n now ∙ can.count;
      rules = can.rules;
      world = subst (IsWorld (numbered here n)) r.world
          (world_there (numbered here n) p r.after (ready_there (numbered here n) p r.after now.stack (there here ps n p can.processes hp) r.ready));
      waiting = λ i q j low hq hj. each i q j low hq (got_set ks n now i j hj);
      unstarted = λ i q j high hq hj. other i q j high hq (got_set ks n now i j hj);
    }
  where
    each : (i : ℕ) (q : Process) (j : Kept) → i < n + 1 → slice_get ps i ≡ Some q → (((i ≡ n) × (now ≡ j)) ⊎ ((i ≡ n → ⊥) × (slice_get ks i ≡ Some j))) → IsWaiting here.objects i q j
    each i q j low hq (inl this) =
        let at_n : slice_get ps n ≡ Some q = subst (λ (m : ℕ). slice_get ps m ≡ Some q) this.0 hq in
        let same : p ≡ q = cc in
        subst (λ (m : ℕ). IsWaiting here.objects m q j) (sym this.0)
        (subst (λ (x : Process). IsWaiting here.objects n x j) same
        (subst (λ (x : Kept). IsWaiting here.objects n p x) this.1 (waits_first n here w v ps ks p k now can hp hk r).1))
    each i q j low hq (inr before) =
        let apart : i ≡ n → ⊥ = before.0 in
        can.waiting i q j (omega (arith, apart)) hq before.1

    other : (i : ℕ) (q : Process) (j : Kept) → n + 1 ≤ i → slice_get ps i ≡ Some q → (((i ≡ n) × (now ≡ j)) ⊎ ((i ≡ n → ⊥) × (slice_get ks i ≡ Some j))) → IsUnstarted q j
    other i q j high hq (inl this) = absurd (omega (arith, this.0))
    other i q j high hq (inr before) = can.unstarted i q j (omega arith) hq before.1

pub first_can : (n : ℕ) (here now_here : Context) (w v : World) (ps : List Process) (ks : List Kept) (p : Process) (k now : Kept) (r : Result Unit ListFault)
    → CanStart n here w ps ks → slice_get ps n ≡ Some p → slice_get ks n ≡ Some k → now_here ≡ numbered here n
    → RunEnds (numbered here n) p now v (run_at statement_budget (numbered here n) p.statements (with_own w k) (place_kept p k)) r
    → OnOk r (CanStart (n + 1) now_here v ps (slice_set ks n now))
first_can n here now_here w v ps ks p k now (Ok u) can hp hk context e =
    subst (λ (h : Context). CanStart (n + 1) h v ps (slice_set ks n now)) (sym context) (rested_starts n here w v ps ks p k now can hp hk e)
first_can n here now_here w v ps ks p k now (Err f) can hp hk context e = tt

-- ---- the first runs so far

pub record Starting (whole : Ran_of) (first : Context) (ps : List Process) (n : ℕ) (here : Context) (w : World) (ks : List Kept) : Type 0 where
  pub context : numbered here 0 ≡ numbered first 0
  pub can : CanStart n here w ps ks
  pub run : started_from n (numbered first) 0 ps (states_kept ps ks) w ≡ whole

pub starting_first : (first : Context) (w : World) (ps : List Process) (ks : List Kept) → CanStart 0 first w ps ks → Starting (start_all (numbered first) 0 ps w) first ps 0 first w ks
starting_first first w ps ks can = record { context = refl; can = can; run = sym (started_begins (numbered first) 0 ps (states_kept ps ks) w) }

start_here : (whole : Ran_of) (first : Context) (ps : List Process) (n : ℕ) (here : Context) (w : World) (ks : List Kept) → Starting whole first ps n here w ks
    → started_from n (numbered here) 0 ps (states_kept ps ks) w ≡ whole
start_here whole first ps n here w ks g = ap (λ (at : ℕ → Context). started_from n at 0 ps (states_kept ps ks) w) (contexts_same here first g.context) ∙ g.run

pub starting_on : (whole : Ran_of) (first : Context) (ps : List Process) (n : ℕ) (here now_here : Context) (w v : World) (ks js : List Kept) (r : Result Unit ListFault) (u : Unit {0})
    → Starting whole first ps n here w ks → r ≡ Ok u → numbered now_here 0 ≡ numbered here 0 → OnOk r (CanStart (n + 1) now_here v ps js)
    → NextEnds (started_from n (numbered here) 0 ps (states_kept ps ks) w) (started_from (n + 1) (numbered here) 0 ps (states_kept ps js) v) v r
    → Starting whole first ps (n + 1) now_here v js
starting_on whole first ps n here now_here w v ks js r u g ok same can next =
    let on : started_from n (numbered here) 0 ps (states_kept ps ks) w ≡ started_from (n + 1) (numbered here) 0 ps (states_kept ps js) v =
    subst (NextEnds (started_from n (numbered here) 0 ps (states_kept ps ks) w) (started_from (n + 1) (numbered here) 0 ps (states_kept ps js) v) v) ok next in
    record {
      context = same ∙ g.context;
      can = subst (λ (z : Result Unit ListFault). OnOk z (CanStart (n + 1) now_here v ps js)) ok can;
      run = ap (λ (at : ℕ → Context). started_from (n + 1) at 0 ps (states_kept ps js) v) (sym (contexts_same here first g.context)) ∙ (sym on ∙ start_here whole first ps n here w ks g);
    }

pub starting_fails : (whole : Ran_of) (first : Context) (ps : List Process) (n : ℕ) (here : Context) (w v : World) (ks js : List Kept) (r : Result Unit ListFault) (f : ListFault)
    → Starting whole first ps n here w ks → r ≡ Err f
    → NextEnds (started_from n (numbered here) 0 ps (states_kept ps ks) w) (started_from (n + 1) (numbered here) 0 ps (states_kept ps js) v) v r
    → AllEnd whole v (states_kept ps js) (Err f)
starting_fails whole first ps n here w v ks js r f g err next =
    fails_with (started_from n (numbered here) 0 ps (states_kept ps ks) w) whole (started_from (n + 1) (numbered here) 0 ps (states_kept ps js) v) v (states_kept ps js) f
    (start_here whole first ps n here w ks g)
    (subst (NextEnds (started_from n (numbered here) 0 ps (states_kept ps ks) w) (started_from (n + 1) (numbered here) 0 ps (states_kept ps js) v) v) err next)

pub starting_ends : (whole : Ran_of) (first : Context) (ps : List Process) (n : ℕ) (here : Context) (w : World) (ks : List Kept) → n ≡ length ps → Starting whole first ps n here w ks → whole ≡ all_ran w (states_kept ps ks)
starting_ends whole first ps n here w ks all g = sym g.run ∙ started_end n (numbered first) 0 ps (states_kept ps ks) w all (states_length ps ks g.can.count)

-- all wait
pub all_wait : (first : Context) (whole : Ran_of) (ps : List Process) (n : ℕ) (here : Context) (w : World) (ks : List Kept) → n ≡ length ps → Starting whole first ps n here w ks → CanRun here w ps ks
all_wait first whole ps n here w ks all g =
    record {
      processes = g.can.processes;
      few = g.can.few;
      count = g.can.count;
      world = g.can.world;
      waiting = λ i p k hp hk. g.can.waiting i p k (let inside = slice_get_within ps i p hp in omega arith) hp hk;
    }

-- ---- before

pub record Laid (ps : List Process) (ks : List Kept) (n : ℕ) : Type 0 where
  pub count : length ks ≡ n
  pub each : (i : ℕ) (p : Process) (k : Kept) → slice_get ps i ≡ Some p → slice_get ks i ≡ Some k → IsUnstarted p k

got_pushed : {X : Type 0} (xs : List X) (x : X) (i : ℕ) (y : X) → slice_get (xs ++ x ∷ []) i ≡ Some y → ((i ≡ length xs) × (x ≡ y)) ⊎ (slice_get xs i ≡ Some y)
got_pushed [] x zero y h = inl (refl, cc)
got_pushed [] x (suc i) y h = absurd (cc)
got_pushed (z ∷ xs) x zero y h = inr h
got_pushed (z ∷ xs) x (suc i) y h = elim (got_pushed xs x i y h) [ inl here ↦ inl (ap suc here.0, here.1) | inr there ↦ inr there ]

pub laid_first : (ps : List Process) → Laid ps [] 0
laid_first ps = record { count = refl; each = λ i p k hp hk. absurd (cc) }

pub laid_on : (ps : List Process) (ks : List Kept) (n : ℕ) (q : Process) (k : Kept) → Laid ps ks n → slice_get ps n ≡ Some q → IsUnstarted q k → Laid ps (ks ++ k ∷ []) (n + 1)
laid_on ps ks n q k laid hq un =
    record {
      count = omega (arith, length-append {A = Kept}, laid.count);
      each = λ i p j hp hj. by_place i p j hp (got_pushed ks k i j hj);
    }
  where
    by_place : (i : ℕ) (p : Process) (j : Kept) → slice_get ps i ≡ Some p → (((i ≡ length ks) × (k ≡ j)) ⊎ (slice_get ks i ≡ Some j)) → IsUnstarted p j
    by_place i p j hp (inl this) =
        let at : slice_get ps n ≡ Some p = subst (λ (m : ℕ). slice_get ps m ≡ Some p) (this.0 ∙ laid.count) hp in
        let same : q ≡ p = cc in
        subst (λ (x : Process). IsUnstarted x j) same (subst (IsUnstarted q) this.1 un)
    by_place i p j hp (inr before) = laid.each i p j hp before

pub laid_all : (ps : List Process) (ks : List Kept) (n : ℕ) → n ≡ length ps → Laid ps ks n → AreUnstarted ps ks
laid_all ps ks n all laid = record { count = laid.count ∙ all; each = laid.each }

pub unstarted_is : (p : Process) (k : Kept) → k ≡ record { wait = 0; timeout = None; stack = at_first; variables = map (λ (x : Variable). x.initial) p.variables } → IsUnstarted p k
unstarted_is p k e = record { stack = ap (λ (j : Kept). j.stack) e; variables = ap (λ (j : Kept). j.variables) e }
