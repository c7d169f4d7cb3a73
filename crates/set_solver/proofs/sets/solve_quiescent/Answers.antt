-- The set has as many unknowns as the design.
use Rattle.std.proofs.Common.{length, sym, ap, ◌∙◌}
use Rattle.flat_design.proofs.OrderLaws.{laws}
use Rattle.design_meaning.specs.Newton.{Problem}
use Rattle.set_solver.proofs.sets.solve_quiescent.Goals as goal

pub solve-requires-clause-size : goal.solve-requires-clause-size
solve-requires-clause-size c =
    let count = ap (λ (q : Problem). length q.unknowns) c.new-posed.ensures ∙ laws.count c.args.basis.now.system.now in
    c.requires.size ∙ sym count

pub solve-requires-clause-from : goal.solve-requires-clause-from
solve-requires-clause-from c =
    let count = ap (λ (q : Problem). length q.unknowns) c.new-posed.ensures ∙ laws.count c.args.basis.now.system.now in
    c.requires.point ∙ sym count

pub solve-requires-clause-room : goal.solve-requires-clause-room
solve-requires-clause-room c =
    let count = ap (λ (q : Problem). length q.unknowns) c.new-posed.ensures ∙ laws.count c.args.basis.now.system.now in
    c.requires.room ∙ sym count
