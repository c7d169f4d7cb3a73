use Rattle.std.proofs.Common.{nat_eq, sym, ap, ◌∙◌}
use Rattle.std.specs.Map.{lookup}
use Rattle.formal_lists.specs.Pairs.{generic_pair, second_at}
use Rattle.formal_lists.proofs.Entries.{found_by_name, not_there}
use Rattle.formal_lists.proofs.generics.GenericFormals.find.Goals as goal

pub returns-in-Some : goal.returns-in-Some
returns-in-Some c =
    c.at.ensures
    ∙ sym
    (ap (lookup (nat_eq c.args.name)) (sym c.self.view_is)
    ∙ (found_by_name generic_pair c.args.name c.self.inside.names c.self.inside.entries c.in-Some.place c.self.invariant (sym c.in-Some.ensures)
    ∙ ap (λ xs. second_at xs c.in-Some.place) c.self.view_is))

pub returns-in-None : goal.returns-in-None
returns-in-None c =
    sym (ap (lookup (nat_eq c.args.name)) (sym c.self.view_is) ∙ not_there generic_pair c.args.name c.self.inside.names c.self.inside.entries c.self.invariant (sym c.in-None.ensures))
