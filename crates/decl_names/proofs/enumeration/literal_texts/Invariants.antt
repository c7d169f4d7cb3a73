use Rattle.std.proofs.Common.{◌≡◌, ◌++◌, map, drop}
use Rattle.ams_tree.specs.declared.expression.Name.{Name}
use Rattle.elab_meaning.specs.Notes as noted
use Rattle.decl_names.proofs.enumeration.literal_texts.Given as goal

abbrev pub invariant-loop-literal : goal.invariant-loop-literal
invariant-loop-literal l =
    l.texts ++ map (λ (x : Name). noted.text_of l.names x.number) (drop l.literal-index l.literals) ≡ map (λ (x : Name). noted.text_of l.names x.number) l.literals
