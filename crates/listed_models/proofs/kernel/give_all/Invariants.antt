use Rattle.std.proofs.Common.{drop}
use Rattle.listed_models.specs.Listing.{events_of}
use Rattle.listed_models.proofs.Giving.{Gave}
use Rattle.listed_models.proofs.kernel.give_all.Given as goal

abbrev pub invariant-loop-k : goal.invariant-loop-k
invariant-loop-k l =
    record { gave : Gave l.initial.out l.out (events_of l.t l.n l.given) (events_of l.t l.n (drop l.k l.given)) }
