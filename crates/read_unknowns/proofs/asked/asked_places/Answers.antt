use Rattle.std.proofs.Common.{◌≡◌, ◌+◌, ◌++◌, ◌∷◌, [], drop, get_or, sym, ap, ◌∙◌}
use Rattle.std.specs.Prelude.{◌||◌, not, if◌then◌else◌}
use Rattle.flat_expr.specs.declared.expr.Unknown.TheVariants.{Quantity}
use Rattle.read_unknowns.specs.Asked.{stands_on, asked_from}
use Rattle.read_unknowns.proofs.AskedLoop.{asked_next, asked_end}
use Rattle.read_unknowns.proofs.asked.asked_places.Goals as goal

pub loop-i-preserved : goal.loop-i-preserved
loop-i-preserved c =
    let stands = stands_on c.args.pair.now in
    let us = c.args.unknowns.now in
    let i = c.loop-i.i in
    let found = c.loop-i.found in
    let done = c.loop-i.places.items in
    let here = stands (get_or us i (Quantity 0)) in
    let s : c.stands_on-stands.result ≡ here = c.stands_on-stands.ensures in
    let w : c.is_asked.result ≡ (here || not found) = c.is_asked.ensures ∙ ap (λ b. b || not found) s in
    let more : c.add.new.places.items ≡ done ++ (if here || not found then i ∷ [] else []) = c.in_ok-add.ensures ∙ ap (λ b. done ++ (if b then i ∷ [] else [])) w in
    let f : c.is_found-found.result ≡ (found || not here) = c.is_found-found.ensures ∙ ap (λ b. found || not b) s in
    ap (λ b. c.add.new.places.items ++ asked_from stands b (i + 1) (drop (i + 1) us)) f
    ∙ sym (asked_next stands found i us (Quantity 0) done c.add.new.places.items c.loop-i-test.true more) ∙ c.loop-i.invariant

pub returns : goal.returns
returns c = c.from_vec.ensures ∙ sym (asked_end (stands_on c.args.pair.now) c.loop-i.found c.loop-i.i c.args.unknowns.now c.loop-i.places.items c.loop-i-test.false) ∙ c.loop-i.invariant
