-- What is divided off and what is left make up the number.
use Rattle.std.proofs.Common.{◌<◌, ◌≤◌, ◌*◌}
use Rattle.number_ratio.proofs.chosen.power_in.Given as goal

abbrev pub invariant-loop : goal.invariant-loop
invariant-loop l = record {
  power : 0 < l.power;
  rest : 0 < l.rest;
  product : l.power * l.rest ≤ l.n;
}
