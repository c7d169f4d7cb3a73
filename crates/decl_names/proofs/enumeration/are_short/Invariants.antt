use Rattle.std.proofs.Common.{◌≡◌, nat_le, length, drop}
use Rattle.std.specs.List.{list_all}
use Rattle.ams_tree.specs.declared.expression.Name.{Name}
use Rattle.elab_meaning.specs.Notes as noted
use Rattle.decl_names.proofs.enumeration.are_short.Given as goal

abbrev pub invariant-loop-literal : goal.invariant-loop-literal
invariant-loop-literal l =
    list_all (λ (x : Name). nat_le (length (noted.text_of l.names x.number)) 64) (drop l.literal-index l.literals)
    ≡ list_all (λ (x : Name). nat_le (length (noted.text_of l.names x.number)) 64) l.literals
