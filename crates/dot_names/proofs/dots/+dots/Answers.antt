use Rattle.std.proofs.Common.{◌≡◌, ◌++◌, List, ℕ, map, OnOk, sym, subst}
use Rattle.std.specs.List.{flat_map}
use Rattle.unit_meaning.specs.Simultaneous as spec
use Rattle.dot_names.proofs.Equations.{call_dots}
use Rattle.dot_names.proofs.dots.+dots.Goals as goal

pub add_dots-returns-in-Call : goal.add_dots-returns-in-Call
add_dots-returns-in-Call t c =
    subst (λ e. OnOk c.add_all.result (c.add_all.new.dots ≡ c.args.dots.now ++ spec.dots_in e)) (sym c.in-Call.is)
    (subst (λ xs. OnOk c.add_all.result (c.add_all.new.dots ≡ c.args.dots.now ++ xs)) (sym (call_dots c.in-Call.field-0 c.in-Call.exprs))
    (subst (λ xs. OnOk c.add_all.result (c.add_all.new.dots ≡ c.args.dots.now ++ flat_map (λ (ys : List ℕ). ys) (map spec.dots_in xs))) c.as_slice.ensures c.add_all.ensures))
