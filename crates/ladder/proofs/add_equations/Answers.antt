use Rattle.std.proofs.Common.{ℕ, List, ◌++◌, ◌∙◌, ap, codes, map}
use Rattle.std.specs.Prelude.{string_bytes}
use Rattle.std.specs.Borrow.{Bor}
use Rattle.ladder.specs.Ladder.{Text, written}
use Rattle.ladder.proofs.TextLemmas.{pushed}
use Rattle.ladder.proofs.add_equations.Goals as goal

pub returns : goal.returns
returns c =
    pushed c.push_str.result (string_bytes c.args.text.now) _ (codes "'dot;\n") _ _
    (c.in_ok-add_parts.ensures ∙ ap (λ (l : List (Bor Text × ℕ)). string_bytes c.args.text.now ++ written (map (λ p. (p.0.now, p.1)) l)) c.as_slice.ensures)
    c.push_str.ensures.bytes
