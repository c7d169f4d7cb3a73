-- One that counts, from a process that stands ready.
use Rattle.std.proofs.Common.{◌≡◌, refl, sym, ◌∙◌, ap, subst, ℕ, ℤ, List, Option, Some, None, Result, Ok, Err, Bor}
use Rattle.std.specs.Prelude.{OnOk}
use Rattle.flat_expr.specs.declared.statement.Statement.{Statement, out-Statement}
use Rattle.flat_design.specs.declared.objects.Process.{Process}
use Rattle.step_data.specs.declared.outcome.Refusal.{Refusal}
use Rattle.design_meaning.specs.Readings.{Readings}
use Rattle.cycle_meaning.specs.Task.{Layer}
use Rattle.cycle_meaning.specs.World.{Context, Local, readings_at}
use Rattle.design_rules.specs.Ways.{layer_at}
use Rattle.process_laws.specs.Resumed.{Surroundings, body_in, AreOf}
use Rattle.statement_lists.specs.declared.fault.ListFault.{ListFault}
use Rattle.process_place.specs.ProcessPlace.{ProcessPlace, IsIn}
use Rattle.process_place.specs.Moves.{begins_at, turns_to, coming, goes_to, waits_at, moved}
use Rattle.process_place.specs.Follows.{ComesIn, MovesIn}
use Rattle.process_place.proofs.Following.{follows}
use Rattle.process_ready.specs.Allowed.{CanPerform, EachCan, LeadRound}
use Rattle.process_ready.specs.Ready.{IsReady, GoesReady}
use Rattle.process_ready.proofs.Staying.{stays}
use Rattle.process_stack.specs.Stacks.{Stacked, round_of, place_by, place_of}
use Rattle.process_control.specs.declared.next.Parameter.{Parameter}
use Rattle.process_control.specs.declared.next.Counted.{Counted}
use Rattle.process_control.specs.declared.next.Counted.TheVariants as counted
use Rattle.process_control.specs.declared.control.Wait.{Wait}
use Rattle.process_control.specs.Coming.{turned, coming_by, IsSmall}
use Rattle.process_control.specs.Performing.{Performs, IsBegun, HasLoop}
use Rattle.proc_exec.specs.Running.{StandsReady}

-- each statement of the text can be performed
pub each_can : (here : Context) (l : Local) (r : Readings) (top : List Statement) (s : Stacked) → readings_at here l ≡ r → StandsReady here l top s → EachCan here r top
each_can here l r top s reads h =
    subst (λ x. EachCan here x top) reads (subst (EachCan here (readings_at here l)) h.text_is (stays.can here h.process l h.ready.ready))

-- ---- a statement begins

-- the statement at which the stack stands now comes next
pub record Comes (here : Context) (l : Local) (top : List Statement) (s mid : Stacked) (statement : Statement) : Type 0 where
  pub coming_is : coming here l top (place_of top s) ≡ begins_at statement (round_of top mid.frames) mid.next
  pub begun : IsBegun top mid (out-Statement statement)

pub comes : (here : Context) (l : Local) (top : List Statement) (s mid : Stacked) (r : Result Counted Refusal) (q : Counted) (statement : Bor Statement) → StandsReady here l top s
    → coming here l top (place_of top s) ≡ coming_by top l mid r → mid.first ≡ None → IsSmall l mid r → r ≡ Ok q → q ≡ counted.Begins statement → Comes here l top s mid statement.now
comes here l top s mid r q statement h is first small answer begins =
    let whole : r ≡ Ok (counted.Begins statement) = answer ∙ ap Ok begins in
    let coming_is : coming here l top (place_of top s) ≡ begins_at statement.now (round_of top mid.frames) mid.next = is ∙ ap (coming_by top l mid) whole in
    let there : ComesIn top (begins_at statement.now (round_of top mid.frames) mid.next) = subst (ComesIn top) coming_is (follows.next_in_text here l top (place_of top s) h.is_in) in
    record {
      coming_is = coming_is;
      begun = record { of_text = there.0; layer_is = there.1; first = first; small = subst (IsSmall l mid) whole small };
    }

pub can_there : (here : Context) (l : Local) (r : Readings) (top : List Statement) (s mid : Stacked) (statement : Statement) → readings_at here l ≡ r → StandsReady here l top s → Comes here l top s mid statement
    → CanPerform here r (out-Statement statement)
can_there here l r top s mid statement reads h next = each_can here l r top s reads h (round_of top mid.frames) mid.next (out-Statement statement) next.begun.of_text next.begun.layer_is

-- ---- it stays ready

begins_so : (here : Context) (p : Process) (l : Local) (top : List Statement) → p.statements ≡ top → (q : ProcessPlace) → IsIn top q → GoesReady here p l q
    → (s : Statement) (c : Surroundings) (k : ℕ) → coming here l top q ≡ begins_at s c k → LeadRound l.variables c
begins_so here p l top e =
    subst (λ t. (q : ProcessPlace) → IsIn t q → GoesReady here p l q → (s : Statement) (c : Surroundings) (k : ℕ) → coming here l t q ≡ begins_at s c k → LeadRound l.variables c) e
    (λ q there h s c k is. stays.begins here p l q there h s c k is)

turns_so : (here : Context) (p : Process) (l : Local) (top : List Statement) → p.statements ≡ top → (q : ProcessPlace) → IsIn top q → GoesReady here p l q
    → (next : ProcessPlace) (turned : Local) → coming here l top q ≡ turns_to next turned → GoesReady here p turned next
turns_so here p l top e =
    subst (λ t. (q : ProcessPlace) → IsIn t q → GoesReady here p l q → (next : ProcessPlace) (turned : Local) → coming here l t q ≡ turns_to next turned → GoesReady here p turned next) e
    (λ q there h next turned is. stays.turns here p l q there h next turned is)

goes_so : (here : Context) (p : Process) (l : Local) (top : List Statement) → p.statements ≡ top → IsReady here p l
    → (c : Surroundings) (k : ℕ) (layer : Layer) → AreOf top c → layer_at k (body_in top c) ≡ Some layer → LeadRound l.variables c
    → (next : ProcessPlace) (after : Local) → moved here l top c k layer ≡ goes_to next after → GoesReady here p after next
goes_so here p l top e ready =
    subst (λ t. (c : Surroundings) (k : ℕ) (layer : Layer) → AreOf t c → layer_at k (body_in t c) ≡ Some layer → LeadRound l.variables c → (next : ProcessPlace) (after : Local) → moved here l t c k layer ≡ goes_to next after → GoesReady here p after next) e
    (λ c k layer of_text layer_is way next after is. stays.goes here p l ready c k layer of_text layer_is way next after is)

waits_so : (here : Context) (p : Process) (l : Local) (top : List Statement) → p.statements ≡ top → IsReady here p l
    → (c : Surroundings) (k : ℕ) (layer : Layer) → AreOf top c → layer_at k (body_in top c) ≡ Some layer → LeadRound l.variables c
    → (number : ℕ) (t : Option ℕ) (next : ProcessPlace) (after : Local) → moved here l top c k layer ≡ waits_at number t next after → GoesReady here p after next
waits_so here p l top e ready =
    subst (λ t. (c : Surroundings) (k : ℕ) (layer : Layer) → AreOf t c → layer_at k (body_in t c) ≡ Some layer → LeadRound l.variables c → (number : ℕ) (z : Option ℕ) (next : ProcessPlace) (after : Local) → moved here l t c k layer ≡ waits_at number z next after → GoesReady here p after next) e
    (λ c k layer of_text layer_is way number z next after is. stays.waits here p l ready c k layer of_text layer_is way number z next after is)

round_there : (top : List Statement) (s : Stacked) (o : Option ℤ) → s.first ≡ o → HasLoop top s → IsIn top (place_of top s) → AreOf top (round_of top s.frames)
round_there top s None e loop is_in = subst (λ z. IsIn top (place_by z (round_of top s.frames) s.next)) e is_in
round_there top s (Some from) e loop is_in = loop from e

pub ready_next : (here now_here : Context) (l after : Local) (top : List Statement) (s mid now : Stacked) (statement : Statement) (r : Result (Option Wait) ListFault) → now_here ≡ here → StandsReady here l top s
    → Comes here l top s mid statement → Performs (moved here l top (round_of top mid.frames) mid.next (out-Statement statement)) top l after now r → HasLoop top now → OnOk r (StandsReady now_here after top now)
ready_next here now_here l after top s mid now statement (Ok o) same h next performs loop =
    subst (λ x. StandsReady x after top now) (sym same)
    (record {
      process = h.process;
      text_is = h.text_is;
      of_text = round_there top now now.first refl loop (in_text o performs);
      is_in = in_text o performs;
      ready = goes_ready o performs;
    })
  where
    way : LeadRound l.variables (round_of top mid.frames)
    way = begins_so here h.process l top h.text_is (place_of top s) h.is_in h.ready statement (round_of top mid.frames) mid.next next.coming_is

    in_text : (o : Option Wait) → Performs (moved here l top (round_of top mid.frames) mid.next (out-Statement statement)) top l after now (Ok o) → IsIn top (place_of top now)
    in_text None is = subst (MovesIn top) is (follows.statement_in_text here l top (round_of top mid.frames) mid.next (out-Statement statement) next.begun.of_text next.begun.layer_is)
    in_text (Some w) is = subst (MovesIn top) is (follows.statement_in_text here l top (round_of top mid.frames) mid.next (out-Statement statement) next.begun.of_text next.begun.layer_is)

    goes_ready : (o : Option Wait) → Performs (moved here l top (round_of top mid.frames) mid.next (out-Statement statement)) top l after now (Ok o) → GoesReady here h.process after (place_of top now)
    goes_ready None is = goes_so here h.process l top h.text_is h.ready.ready (round_of top mid.frames) mid.next (out-Statement statement) next.begun.of_text next.begun.layer_is way (place_of top now) after is
    goes_ready (Some w) is =
        waits_so here h.process l top h.text_is h.ready.ready (round_of top mid.frames) mid.next (out-Statement statement) next.begun.of_text next.begun.layer_is way w.number w.timeout (place_of top now) after is
ready_next here now_here l after top s mid now statement (Err f) same h next performs loop = tt

-- ---- a turn

pub ready_turned : (here now_here : Context) (l after : Local) (top : List Statement) (s mid : Stacked) (r : Result Counted Refusal) (q : Counted) (p : Option Parameter) → now_here ≡ here → StandsReady here l top s
    → coming here l top (place_of top s) ≡ coming_by top l mid r → mid.first ≡ None → r ≡ Ok q → q ≡ counted.Turns p → after ≡ turned p l → StandsReady now_here after top mid
ready_turned here now_here l after top s mid r q p same h comes first answer turns is =
    let coming_is : coming here l top (place_of top s) ≡ turns_to (place_of top mid) after = comes ∙ (ap (coming_by top l mid) (answer ∙ ap Ok turns) ∙ ap (turns_to (place_of top mid)) (sym is)) in
    let in_text : IsIn top (place_of top mid) = subst (ComesIn top) coming_is (follows.next_in_text here l top (place_of top s) h.is_in) in
    subst (λ x. StandsReady x after top mid) (sym same)
    (record {
      process = h.process;
      text_is = h.text_is;
      of_text = subst (λ z. IsIn top (place_by z (round_of top mid.frames) mid.next)) first in_text;
      is_in = in_text;
      ready = turns_so here h.process l top h.text_is (place_of top s) h.is_in h.ready (place_of top mid) after coming_is;
    })
