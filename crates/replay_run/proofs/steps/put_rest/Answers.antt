use Rattle.std.proofs.Common.{◌≡◌, ℕ, refl, sym, ◌∙◌, arith}
use Rattle.lockstep_model.specs.declared.moves.Moved.TheVariants as says
use Rattle.step_schedule.specs.declared.Step.TheVariants.{D}
use Rattle.core_steps.specs.States.{State, stepped, said}
use Rattle.core_steps.specs.Ending.{Nears}
use Rattle.trace_sink.specs.PutsLaws.{written_start}
use Rattle.replay_model.specs.Reaching.{Leads, less, leads_start, leads_on, leads_end, told}
use Rattle.replay_run.proofs.Putting.{some_more, rest_fails}
use Rattle.replay_run.proofs.steps.put_rest.Goals as goal

pub loop-end-init : goal.loop-end-init
loop-end-init g c =
    record {
      state = λ n enough. (n, leads_start (g.D.Design.system 0) n _ enough);
      written = written_start _ _;
      later = omega arith;
      list = c.requires.list;
      end = refl;
    }

pub loop-end-preserved : goal.loop-end-preserved
loop-end-preserved g c =
    record {
      state = λ n enough. let so = c.loop-end.invariant.state n enough in (less so.0, leads_on (g.D.Design.system 0) n so.0 _ _ _ so.1 c.in-Ok-Ask.ensures.state c.in-Ok-Ask.ensures.nears);
      written = some_more _ _ _ _ _ _ c.loop-end.invariant.written c.in-Ok-Ask.ensures.puts.ok;
      later = let l = c.turn.ensures.puts.later in let m = c.loop-end.invariant.later in omega arith;
      list = c.in-Ok-Ask.ensures.list;
      end = c.in-Ok-Ask.ensures.end ∙ c.loop-end.invariant.end;
    }

pub returns-in-Ok-Ended-clause-state : goal.returns-in-Ok-Ended-clause-state
returns-in-Ok-Ended-clause-state g c = λ n enough.
    let sys = g.D.Design.system 0 in
    let from : State = c.args.core.now in
    let old : State = c.loop-end.core in
    let new : State = c.turn.new.core in
    let so : (left : ℕ) × Leads sys n left from old = c.loop-end.invariant.state n enough in
    let is : new ≡ stepped sys D old = c.in-Ok-Ended.ensures.state in
    let near : Nears 1 old new = c.in-Ok-Ended.ensures.nears in
    let tells : says.Ended c.in-Ok-Ended.end ≡ said D old = sym c.in-Ok-Ended.field-0-is ∙ c.in-Ok-Ended.ensures.says in
    leads_end sys n (less so.0) from new c.in-Ok-Ended.end (leads_on sys n so.0 from old new so.1 is near) (told sys old new c.in-Ok-Ended.end is tells)

pub returns-in-Err-clause-puts : goal.returns-in-Err-clause-puts
returns-in-Err-clause-puts g c =
    rest_fails c.turn.result c.in-Err.fault _ _ _ _ _ _ _ _ _ c.loop-end.invariant.written c.loop-end.invariant.later c.turn.ensures.puts c.in-Err.is
