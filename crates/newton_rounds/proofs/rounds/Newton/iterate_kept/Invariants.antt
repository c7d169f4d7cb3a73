use Rattle.std.proofs.Common.{◌≡◌, ◌-◌, length}
use Rattle.design_meaning.specs.Newton.{newton}
use Rattle.design_meaning.specs.Steps.{rounds}
use Rattle.newton_rounds.proofs.rounds.Newton.iterate_kept.Given as goal

abbrev pub invariant-loop-round : goal.invariant-loop-round
invariant-loop-round g l = record {
  told : newton rounds (g.S.EquationSet.problem l.set) l.fn.x ≡ newton (rounds - l._round) (g.S.EquationSet.problem l.set) l.x;
  count : length l.x ≡ length l.fn.x;
  size : l.self ≡ l.fn.self;
}
