use Rattle.std.proofs.Common.{◌≤◌, ◌<◌, length, drop, ◌∙◌, arith}
use Rattle.step_data.specs.declared.breaks.ThresholdState.{ThresholdState}
use Rattle.step_model.specs.Kernel.{AddsFront}
use Rattle.cycle_meaning.specs.Cycles.{crossings}
use Rattle.threshold_set.specs.Crossed.{crossed, crossed_of}
use Rattle.threshold_set.proofs.Steps.{on_err, all_done, list_more, events_more, crossings_more, given_front}
use Rattle.threshold_set.proofs.update_all.Goals as goal

pub returns-in_err-update_one-clause-front : goal.returns-in_err-update_one-clause-front
returns-in_err-update_one-clause-front c =
    let old = c.args.list.now in
    let x = c.args.point.now in
    on_err c.from_residual.result (AddsFront c.args.out.now c.update_one.new.out (crossings c.args.t c.args.n 0 (crossed_of x old)))
    (rw c.in_err-update_one.ensures.err
    (given_front c.args.out.now c.loop-k.out (crossings c.args.t c.args.n c.loop-k.k (crossed_of x (drop c.loop-k.k old))) (crossings c.args.t c.args.n 0 (crossed_of x old)) c.loop-k.invariant.given))

pub loop-k-preserved : goal.loop-k-preserved
loop-k-preserved c =
    let old = c.args.list.now in
    let x = c.args.point.now in
    let h : c.loop-k.k < length old = omega arith in
    record {
      list = list_more x c.loop-k.k old c.loop-k.list c.update_one.new.list h c.loop-k.invariant.list c.in_ok-update_one.ensures.list;
      events = events_more x c.loop-k.k old c.loop-k.list c.args.events.now.items c.loop-k.events.items c.update_one.new.events.items h c.requires.events c.loop-k.invariant.list
          c.loop-k.invariant.events c.in_ok-update_one.ensures.events;
      given = crossings_more x c.args.t c.args.n c.loop-k.k old c.loop-k.list c.args.out.now c.loop-k.out c.update_one.new.out (crossings c.args.t c.args.n 0 (crossed_of x old)) h
          c.loop-k.invariant.list c.loop-k.invariant.given c.in_ok-update_one.ensures.given;
      same = c.in_ok-update_one.ensures.same ∙ c.loop-k.invariant.same;
    }

pub returns-clause-events : goal.returns-clause-events
returns-clause-events c =
    let old = c.args.list.now in
    let x = c.args.point.now in
    let h : length old ≤ c.loop-k.k = omega arith in
    let g : length c.args.events.now.items ≤ c.loop-k.k = omega arith in
    c.loop-k.invariant.events ∙ all_done (λ (s : ThresholdState). (crossed x s).event) c.loop-k.k old c.args.events.now.items h g
