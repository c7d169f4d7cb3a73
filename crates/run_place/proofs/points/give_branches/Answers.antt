use Rattle.std.proofs.Common.{◌≡◌, ◌++◌, ◌+◌, get_or, subst, sym, ap, ◌∙◌, arith, List}
use Rattle.step_data.specs.declared.event.Event.{Event}
use Rattle.lockstep_model.specs.Lockstep.{branch_event, branch_events}
use Rattle.run_place.specs.Places.{branches_of}
use Rattle.run_place.specs.Giving.{Gave}
use Rattle.run_place.proofs.Branching.{branches_left, more_given, all_given, branch_next, branch_last}
use Rattle.run_place.proofs.points.give_branches.Goals as goal

pub loop-k-preserved : goal.loop-k-preserved
loop-k-preserved c =
    let t = c.args.at.now.t in
    let n = c.args.at.now.n in
    let bs = c.args.branches.now in
    let old = c.args.old.now in
    let k = c.loop-k.k in
    let added : List Event = branch_event c.is_old-is_same.result t n k (get_or bs k 0) in
    let later : List Event = branches_left t n bs c.args.has_old old (k + 1) in
    let whole : List Event = branch_events t n 0 bs (branches_of c.args.has_old old) in
    let next : branches_left t n bs c.args.has_old old k ≡ added ++ later =
    branch_next t n bs c.args.has_old old k (omega arith) c.requires.lengths
    ∙ ap (λ b. branch_event b t n k (get_or bs k 0) ++ later) (sym c.is_old-is_same.ensures) in
    record {
      given =
          subst (λ xs. Gave c.args.out.now xs whole later) (sym c.in_ok-give_branch.ensures.ok)
          (more_given c.args.out.now c.loop-k.out added whole later
          (subst (λ xs. Gave c.args.out.now c.loop-k.out whole xs) next c.loop-k.invariant.given));
    }

pub returns-clause-ok : goal.returns-clause-ok
returns-clause-ok c =
    let t = c.args.at.now.t in
    let n = c.args.at.now.n in
    let bs = c.args.branches.now in
    let old = c.args.old.now in
    let whole : List Event = branch_events t n 0 bs (branches_of c.args.has_old old) in
    all_given c.args.out.now c.loop-k.out whole
    (subst (λ xs. Gave c.args.out.now c.loop-k.out whole xs) (branch_last t n bs c.args.has_old old c.loop-k.k (omega arith)) c.loop-k.invariant.given)
