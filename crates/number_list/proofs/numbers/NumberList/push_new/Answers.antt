use Rattle.std.proofs.Common.{◌++◌, ◌∷◌, [], nat_eq, position, ap, ◌∙◌}
use Rattle.number_list.proofs.Behind.{new_number}
use Rattle.number_list.proofs.numbers.NumberList.push_new.Goals as goal

pub invariant_of-self-in-Ok-insert : goal.invariant_of-self-in-Ok-insert
invariant_of-self-in-Ok-insert c =
    new_number c.self.inside.all c.self.inside.different.keys c.self.inside.firsts c.push-2.new.self c.insert.new.self.keys c.push.new.self c.args.number c.self.invariant
    (ap (λ xs. position (nat_eq c.args.number) xs) c.self.view_is ∙ c.requires)
    c.in-Ok.ensures.ok
    c.in-Ok-insert.ensures.keys
    (c.in_ok-push.ensures.ok ∙ ap (λ n. c.self.inside.firsts ++ n ∷ []) c.len-place.ensures)
