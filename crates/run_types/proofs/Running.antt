-- A process that runs leaves what fits, and waits again where it can go on.
use Rattle.std.proofs.Common.{◌≡◌, refl, ap, sym, ◌∙◌, subst, ℕ, zero, suc, ◌+◌, Bool, true, false, List, [], ◌∷◌, ◌++◌, append-nil, map, Option, Some, None, arith}
use Rattle.std.specs.List.{All, slice_get}
use Rattle.std.proofs.lemmas.List.Elements.{All-head, All-tail}
use Rattle.flat_expr.specs.declared.statement.Statement.{Statement, out-Statement}
use Rattle.flat_design.specs.declared.objects.Variable.{Variable}
use Rattle.flat_design.specs.declared.objects.Process.{Process}
use Rattle.step_model.specs.System.{ProcessState}
use Rattle.cycle_meaning.specs.Task.{Layer, statements}
use Rattle.cycle_meaning.specs.World.{World, Context, Local}
use Rattle.cycle_meaning.specs.Processes.{Stop, stopped, refused, run, statement_budget, state_of, left_behind, process_body, body_of}
use Rattle.cycle_meaning.specs.Cycles.{Ran_of, all_ran, one_refused, with_state, after_stop, by_resumption, local_of, run_all, start_all}
use Rattle.design_rules.specs.Ways.{layer_at}
use Rattle.design_rules.specs.Design.{IsProcess}
use Rattle.process_laws.specs.Resumed.{Surroundings, body_in, AreOf}
use Rattle.process_laws.specs.Held.{kept_variables}
use Rattle.process_laws.proofs.Places.{parameters_round}
use Rattle.process_place.specs.ProcessPlace.{ProcessPlace, at_start, tasks_at, IsIn}
use Rattle.process_place.specs.Moves.{Coming, begins_at, turns_to, starts_again, has_fault, coming, Moved, goes_to, waits_at, is_refused, moved, Ended, waiting, ended_refused, after_move, nothing_left, one_counted, run_at}
use Rattle.process_place.specs.Follows.{next_in, stop_in, ComesIn, MovesIn}
use Rattle.process_place.specs.Kept.{KeepsPlace}
use Rattle.process_place.proofs.Following.{follows}
use Rattle.process_place.proofs.Keeping.{places_are_kept}
use Rattle.process_ready.specs.Ready.{IsReady, GoesReady}
use Rattle.process_ready.proofs.Allowed.{allowed_at}
use Rattle.process_ready.proofs.Staying.{stays}
use Rattle.process_stack.specs.Stacks.{Stacked, place_of}
use Rattle.proc_exec.specs.Running.{StandsReady}
use Rattle.process_rest.proofs.Behind.{IsBehind, EndsBehind, run_behind}
use Rattle.process_rest.proofs.ReadyAgain.{rests_ready, starts_ready, goes_on_ready}
use Rattle.run_laws.specs.Values.{WorldFits}
use Rattle.run_laws.specs.Safe.{IsResting, AreResting}
use Rattle.run_changes.proofs.Running.{TurnsIn, next_turns}
use Rattle.run_types.proofs.Statements.{Fits, MoveFits, moved_fits}
use Rattle.run_types.proofs.Places.{stack_at, place_is, stands_at}

-- ---- the run from a place

abbrev pub EndFits : Context → Process → Ended → Type 0
EndFits here p (waiting number t q l) = GoesReady here p l q × Fits here.objects l.world
EndFits here p (ended_refused l r) = Unit {0}

nothing_fits : (here : Context) (p : Process) (l : Local) (q : Coming) → EndFits here p (nothing_left here l q)
nothing_fits here p l (begins_at s c k) = tt
nothing_fits here p l (turns_to q turned) = tt
nothing_fits here p l starts_again = tt
nothing_fits here p l (has_fault r) = tt

-- further runs fit
abbrev On : Context → Process → (Local → ProcessPlace → Ended) → Type 0
On here p further = (l : Local) (q : ProcessPlace) → IsIn p.statements q → GoesReady here p l q → Fits here.objects l.world → EndFits here p (further l q)

-- where a statement leads
abbrev Leads : Context → Process → Moved → Type 0
Leads here p (goes_to q l) = GoesReady here p l q
Leads here p (waits_at number t q l) = GoesReady here p l q
Leads here p (is_refused l r) = Unit {0}

leads : (here : Context) (p : Process) (l : Local) → IsReady here p l → (c : Surroundings) (k : ℕ) (layer : Layer) → AreOf p.statements c → layer_at k (body_in p.statements c) ≡ Some layer
    → ((q : ProcessPlace) (after : Local) → moved here l p.statements c k layer ≡ goes_to q after → GoesReady here p after q)
    → ((number : ℕ) (t : Option ℕ) (q : ProcessPlace) (after : Local) → moved here l p.statements c k layer ≡ waits_at number t q after → GoesReady here p after q)
    → Leads here p (moved here l p.statements c k layer)
leads here p l ready c k layer of_text is goes waits = by_move (moved here l p.statements c k layer) refl
  where
    by_move : (m : Moved) → moved here l p.statements c k layer ≡ m → Leads here p m
    by_move (goes_to q after) e = goes q after e
    by_move (waits_at number t q after) e = waits number t q after e
    by_move (is_refused after r) e = tt

after_fits : (here : Context) (p : Process) (further : Local → ProcessPlace → Ended) (m : Moved) → On here p further → MovesIn p.statements m → Leads here p m → MoveFits here.objects m → EndFits here p (after_move further m)
after_fits here p further (goes_to q l) on there ready h = on l q there ready h
after_fits here p further (waits_at number t q l) on there ready h = (ready, h)
after_fits here p further (is_refused l r) on there ready h = tt

begun_fits : (here : Context) (p : Process) (l : Local) (q : ProcessPlace) (further : Local → ProcessPlace → Ended) (s : Statement) (c : Surroundings) (k : ℕ) → IsIn p.statements q → GoesReady here p l q → Fits here.objects l.world → On here p further
    → coming here l p.statements q ≡ begins_at s c k → EndFits here p (after_move further (moved here l p.statements c k (out-Statement s)))
begun_fits here p l q further s c k there h fits on e =
    let in_text : AreOf p.statements c × (layer_at k (body_in p.statements c) ≡ Some (out-Statement s)) = subst (ComesIn p.statements) e (follows.next_in_text here l p.statements q there) in
    let way = stays.begins here p l q there h s c k e in
    after_fits here p further (moved here l p.statements c k (out-Statement s)) on
    (follows.statement_in_text here l p.statements c k (out-Statement s) in_text.0 in_text.1)
    (leads here p l h.ready c k (out-Statement s) in_text.0 in_text.1
    (stays.goes here p l h.ready c k (out-Statement s) in_text.0 in_text.1 way)
    (stays.waits here p l h.ready c k (out-Statement s) in_text.0 in_text.1 way))
    (moved_fits here p l h.ready (parameters_round c ++ []) c k (out-Statement s) (allowed_at here p l h.ready c k (out-Statement s) in_text.0 in_text.1) fits)

counted_fits : (here : Context) (p : Process) (l : Local) (q : ProcessPlace) (further : Local → ProcessPlace → Ended) (next : Coming) → IsIn p.statements q → GoesReady here p l q → Fits here.objects l.world → On here p further
    → coming here l p.statements q ≡ next → TurnsIn l.world (next_in p.statements next) → EndFits here p (one_counted further here l p.statements next)
counted_fits here p l q further (begins_at s c k) there h fits on e same = begun_fits here p l q further s c k there h fits on e
counted_fits here p l q further (turns_to next turned) there h fits on e same =
    on turned next (subst (ComesIn p.statements) e (follows.next_in_text here l p.statements q there)) (stays.turns here p l q there h next turned e) (subst (Fits here.objects) (sym same) fits)
counted_fits here p l q further starts_again there h fits on e same = on l at_start tt (record { ready = h.ready; way = tt }) fits
counted_fits here p l q further (has_fault r) there h fits on e same = tt

pub run_fits : (n : ℕ) (here : Context) (p : Process) (l : Local) (q : ProcessPlace) → IsIn p.statements q → GoesReady here p l q → Fits here.objects l.world → EndFits here p (run_at n here p.statements l q)
unfolding run_at
run_fits zero here p l q there h fits = nothing_fits here p l (coming here l p.statements q)
run_fits (suc n) here p l q there h fits =
    counted_fits here p l q (run_at n here p.statements) (coming here l p.statements q) there h fits (run_fits n here p) refl
    (subst (TurnsIn l.world) (follows.next here l p.statements q there) (next_turns here l (tasks_at p.statements q)))

-- ---- where it stops

abbrev pub StopFits : Context → Process → Stop → Type 0
StopFits here p (stopped number t rest l) = IsResting here.objects here.process p (state_of p.variables number t rest l) × WorldFits here l.world
StopFits here p (refused l r) = Unit {0}

world_there : (here : Context) (p : Process) (l : Local) → IsReady here p l → Fits here.objects l.world → WorldFits here l.world
world_there here p l ready fits =
    record {
      world = record {
        signals = ready.reads.signals;
        signals_range = ready.reads.signals_range;
        thresholds = ready.reads.thresholds;
        thresholds_kind = ready.reads.thresholds_kind;
        domain = ready.reads.domain;
        domain_range = ready.reads.domain_range;
        quantities = ready.reads.quantities;
        references = ready.reads.references;
        dots = ready.reads.dots;
        now = ready.reads.now;
      };
      queues = fits.queues;
      elements = fits.elements;
    }

-- a run from a place that waits again keeps what belongs to the state
abbrev KeepsAgain : Context → Process → Local → ProcessPlace → Type 0
KeepsAgain here p before from =
    (k : ℕ) (t : Option ℕ) (rest : ProcessPlace) (after : Local) → run_at statement_budget here p.statements before from ≡ waiting k t rest after
    → KeepsPlace p (state_of p.variables k t (tasks_at p.statements rest) after) rest (kept_variables p k after)

rests : (here : Context) (p : Process) (before : Local) (from : ProcessPlace) → slice_get here.objects.processes here.process ≡ Some p → IsIn p.statements from → KeepsAgain here p before from
    → (k : ℕ) (t : Option ℕ) (rest : ProcessPlace) (after : Local) → run_at statement_budget here p.statements before from ≡ waiting k t rest after → IsBehind p.statements k rest → GoesReady here p after rest
    → IsResting here.objects here.process p (state_of p.variables k t (tasks_at p.statements rest) after)
rests here p before from process_is there keeps k t rest after ends b ready =
    let n : ℕ = b.statement + 1 in
    let same : rest ≡ place_of p.statements (stack_at b.round n) = b.place_is ∙ sym (place_is p.statements b.round n b.of_text) in
    record {
      stack = stack_at b.round n;
      variables = kept_variables p k after;
      keeps = subst (λ (q : ProcessPlace). KeepsPlace p (state_of p.variables k t (tasks_at p.statements rest) after) q (kept_variables p k after)) same (keeps k t rest after ends);
      ready = λ later w objects_are number_is world.
          goes_on_ready here later (record after { variables = kept_variables p k after }) w p.statements (stack_at b.round n) objects_are number_is world
          (rests_ready here p statement_budget before after from (stack_at b.round n) k t process_is there
          (subst (λ (q : ProcessPlace). run_at statement_budget here p.statements before from ≡ waiting k t q after) same ends)
          (stands_at here p after b.round n b.of_text (subst (GoesReady here p after) b.place_is ready)));
    }

stop_fits : (here : Context) (p : Process) (before : Local) (from : ProcessPlace) → slice_get here.objects.processes here.process ≡ Some p → IsIn p.statements from → KeepsAgain here p before from
    → (e : Ended) → run_at statement_budget here p.statements before from ≡ e → EndsBehind p.statements e → EndFits here p e → StopFits here p (stop_in p.statements e)
stop_fits here p before from process_is there keeps (waiting k t rest after) ends b h =
    (rests here p before from process_is there keeps k t rest after ends b h.0, world_there here p after h.0.ready h.1)
stop_fits here p before from process_is there keeps (ended_refused after r) ends b h = tt

from_place : (here : Context) (p : Process) (before : Local) (from : ProcessPlace) → slice_get here.objects.processes here.process ≡ Some p → IsIn p.statements from → GoesReady here p before from → Fits here.objects before.world
    → KeepsAgain here p before from → StopFits here p (stop_in p.statements (run_at statement_budget here p.statements before from))
from_place here p before from process_is there ready fits keeps =
    stop_fits here p before from process_is there keeps (run_at statement_budget here p.statements before from) refl (run_behind statement_budget here p.statements before from there)
    (run_fits statement_budget here p before from there ready fits)

body_is : (here : Context) (p : Process) → slice_get here.objects.processes here.process ≡ Some p → process_body here ≡ p.statements
body_is here p is = ap body_of is

the_same : (here : Context) (p q : Process) → slice_get here.objects.processes here.process ≡ Some p → slice_get here.objects.processes here.process ≡ Some q → q ≡ p
the_same here p q a b = cc

ready_there : (here : Context) (p : Process) (l : Local) (s : Stacked) → slice_get here.objects.processes here.process ≡ Some p → StandsReady here l p.statements s → GoesReady here p l (place_of p.statements s)
ready_there here p l s there h = subst (λ (q : Process). GoesReady here q l (place_of p.statements s)) (the_same here p h.process there h.ready.ready.process_is) h.ready

fits_of : (here : Context) (w : World) → WorldFits here w → Fits here.objects w
fits_of here w h = record { queues = h.queues; elements = h.elements }

-- a process that is resumed
pub resumed_fits : (here : Context) (p : Process) (s : ProcessState) (w : World) → slice_get here.objects.processes here.process ≡ Some p → IsResting here.objects here.process p s → WorldFits here w
    → StopFits here p (run statement_budget here (local_of w p s) (left_behind p s))
resumed_fits here p s w process_is rest h =
    let before : Local = record { world = w; variables = rest.variables } in
    let from : ProcessPlace = place_of p.statements rest.stack in
    let ready : GoesReady here p before from = ready_there here p before rest.stack process_is (rest.ready here w refl refl h.world) in
    subst (StopFits here p) (sym (places_are_kept.runs p s from rest.variables rest.keeps statement_budget here w process_is))
    (from_place here p before from process_is rest.keeps.is_in ready (fits_of here w h)
    (λ k t q after ends. places_are_kept.again p s from rest.variables (ready.ready.rules.ways, ready.ready.rules.parameters) rest.keeps statement_budget here w k t q after process_is ends))

-- and one that runs for the first time
starts_so : (here : Context) (p : Process) (before : Local) → process_body here ≡ p.statements
    → run statement_budget here before (statements p.statements) ≡ stop_in p.statements (run_at statement_budget here p.statements before at_start)
starts_so here p before body = ap (run statement_budget here before) (sym (append-nil (statements p.statements))) ∙ follows.runs here p.statements statement_budget before at_start body tt

pub started_fits : (here : Context) (p : Process) (w : World) → slice_get here.objects.processes here.process ≡ Some p → IsProcess here.objects p → WorldFits here w
    → StopFits here p (run statement_budget here (record { world = w; variables = map (λ (v : Variable). v.initial) p.variables }) (statements p.statements))
started_fits here p w process_is rules h =
    let before : Local = record { world = w; variables = map (λ (v : Variable). v.initial) p.variables } in
    let ready : StandsReady here before p.statements (record { frames = []; next = 0; first = None }) = starts_ready here w p process_is rules h.world in
    subst (StopFits here p) (sym (starts_so here p before (body_is here p process_is)))
    (from_place here p before at_start process_is tt (ready_there here p before (record { frames = []; next = 0; first = None }) process_is ready) (fits_of here w h)
    (λ k t q after ends. places_are_kept.from_start p (rules.ways, rules.parameters) statement_budget here w k t q after process_is ends))

-- ---- all

abbrev pub numbered : Context → ℕ → Context
numbered here n = record here { process = n }

abbrev pub RanFits : Context → ℕ → List Process → Ran_of → Type 0
RanFits here k ps (all_ran w states) = WorldFits here w × AreResting here.objects k ps states
RanFits here k ps (one_refused w r) = Unit {0}

-- these are the processes of the design from a number on
abbrev pub AreFrom : Context → ℕ → List Process → Type 0
AreFrom here k ps = (j m : ℕ) (p : Process) → m ≡ k + j → slice_get ps j ≡ Some p → slice_get here.objects.processes m ≡ Some p

from_later : (here : Context) (k : ℕ) (p : Process) (ps : List Process) → AreFrom here k (p ∷ ps) → AreFrom here (k + 1) ps
from_later here k p ps from j m q e is = from (suc j) m q (omega (arith, e)) is

first_from : (here : Context) (k : ℕ) (p : Process) (ps : List Process) → AreFrom here k (p ∷ ps) → slice_get here.objects.processes k ≡ Some p
first_from here k p ps from = from 0 k p (omega arith) refl

-- another process acts in the world
fits_for : (here : Context) (n : ℕ) (w : World) → WorldFits here w → WorldFits (numbered here n) w
fits_for here n w h =
    record {
      world = record {
        signals = h.world.signals;
        signals_range = h.world.signals_range;
        thresholds = h.world.thresholds;
        thresholds_kind = h.world.thresholds_kind;
        domain = h.world.domain;
        domain_range = h.world.domain_range;
        quantities = h.world.quantities;
        references = h.world.references;
        dots = h.world.dots;
        now = h.world.now;
      };
      queues = h.queues;
      elements = h.elements;
    }

with_state_fits : (here : Context) (k : ℕ) (p : Process) (ps : List Process) (s : ProcessState) (r : Ran_of) → IsResting here.objects k p s → RanFits here (k + 1) ps r → RanFits here k (p ∷ ps) (with_state s r)
with_state_fits here k p ps s (all_ran w states) rest h = (h.0, (rest, h.1))
with_state_fits here k p ps s (one_refused w r) rest h = tt

after_stop_fits : (here : Context) (k : ℕ) (p : Process) (ps : List Process) (others : World → Ran_of) (e : Stop) → ((w : World) → WorldFits here w → RanFits here (k + 1) ps (others w)) → StopFits (numbered here k) p e
    → RanFits here k (p ∷ ps) (after_stop others p e)
after_stop_fits here k p ps others (stopped number t rest l) on h =
    with_state_fits here k p ps (state_of p.variables number t rest l) (others l.world) h.0 (on l.world (fits_for (numbered here k) here.process l.world h.1))
after_stop_fits here k p ps others (refused l r) on h = tt

by_resumption_fits : (b : Bool) (here : Context) (k : ℕ) (p : Process) (ps : List Process) (s : ProcessState) (others : World → Ran_of) (w : World) → slice_get here.objects.processes k ≡ Some p
    → ((v : World) → WorldFits here v → RanFits here (k + 1) ps (others v)) → IsResting here.objects k p s → WorldFits here w → RanFits here k (p ∷ ps) (by_resumption b others (numbered here k) w p s)
by_resumption_fits true here k p ps s others w process_is on rest h =
    after_stop_fits here k p ps others (run statement_budget (numbered here k) (local_of w p s) (left_behind p s)) on (resumed_fits (numbered here k) p s w process_is rest (fits_for here k w h))
by_resumption_fits false here k p ps s others w process_is on rest h = with_state_fits here k p ps s (others w) rest (on w h)

pub runs_fit : (here : Context) (k : ℕ) (ps : List Process) (states : List ProcessState) (bs : List Bool) (w : World) → AreFrom here k ps → AreResting here.objects k ps states → WorldFits here w
    → RanFits here k ps (run_all (numbered here) k ps states bs w)
unfolding run_all
runs_fit here k [] [] bs w from rest h = (h, tt)
runs_fit here k [] (s ∷ states) bs w from rest h = absurd rest
runs_fit here k (p ∷ ps) [] bs w from rest h = absurd rest
runs_fit here k (p ∷ ps) (s ∷ states) [] w from rest h = (h, rest)
runs_fit here k (p ∷ ps) (s ∷ states) (b ∷ bs) w from rest h =
    by_resumption_fits b here k p ps s (run_all (numbered here) (k + 1) ps states bs) w (first_from here k p ps from)
    (λ v g. runs_fit here (k + 1) ps states bs v (from_later here k p ps from) rest.1 g) rest.0 h

pub starts_fit : (here : Context) (k : ℕ) (ps : List Process) (w : World) → AreFrom here k ps → All (IsProcess here.objects) ps → WorldFits here w → RanFits here k ps (start_all (numbered here) k ps w)
unfolding start_all
starts_fit here k [] w from rules h = (h, tt)
starts_fit here k (p ∷ ps) w from rules h =
    after_stop_fits here k p ps (start_all (numbered here) (k + 1) ps) (run statement_budget (numbered here k) (record { world = w; variables = map (λ (v : Variable). v.initial) p.variables }) (statements p.statements))
    (λ v g. starts_fit here (k + 1) ps v (from_later here k p ps from) (All-tail (IsProcess here.objects) p ps rules) g)
    (started_fits (numbered here k) p w (first_from here k p ps from) (All-head (IsProcess here.objects) p ps rules) (fits_for here k w h))

pub all_from : (here : Context) → AreFrom here 0 here.objects.processes
all_from here j m p e is = subst (λ n. slice_get here.objects.processes n ≡ Some p) (omega (arith, e)) is
