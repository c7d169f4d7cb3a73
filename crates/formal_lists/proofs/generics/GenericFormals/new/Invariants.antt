use Rattle.std.proofs.Common.{◌≡◌, ◌++◌, map, drop}
use Rattle.formal_lists.specs.declared.generics.GenericFormal.{GenericFormal}
use Rattle.formal_lists.proofs.generics.GenericFormals.new.Given as goal

abbrev pub invariant-loop-entry : goal.invariant-loop-entry
invariant-loop-entry l = l.names ++ map (λ (e : GenericFormal). e.name) (drop l.entry-index l.entry-items) ≡ map (λ (e : GenericFormal). e.name) l.entry-items
