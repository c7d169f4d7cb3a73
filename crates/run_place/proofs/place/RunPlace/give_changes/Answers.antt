use Rattle.std.proofs.Common.{◌++◌, append-nil, sym, ap, ◌∙◌}
use Rattle.lockstep_model.specs.Lockstep.{branch_events}
use Rattle.run_place.specs.Giving.{olds_of, chosen_of}
use Rattle.run_place.proofs.Branching.{same_branches}
use Rattle.run_place.proofs.place.RunPlace.give_changes.Goals as goal

pub returns-then-not-is_chosen-clause-ok : goal.returns-then-not-is_chosen-clause-ok
returns-then-not-is_chosen-clause-ok c =
    let t = c.args.at.now.t in
    let n = c.args.at.now.n in
    let olds = olds_of c.args.self.now in
    sym (append-nil c.args.out.now)
    ∙ ap (λ xs. c.args.out.now ++ xs)
    (sym (same_branches t n 0 olds)
    ∙ ap (λ b. branch_events t n 0 (chosen_of b c.args.branches.now olds) olds) (sym c.if-not-is_chosen.true))
