use Rattle.std.proofs.Common.{◌≡◌, ◌≢◌, sym, ap, ◌∙◌, length, add-one, arith}
use Rattle.std.proofs.lemmas.Grind.{common_steps}
use Rattle.run_place.proofs.Gathering.{passed, found, put_behind}
use Rattle.run_place.proofs.gathered.put.Goals as goal

pub returns-then-get-element : goal.returns-then-get-element
returns-then-get-element c =
    let same : c.get.result.selector ≡ c.args.element.selector = grind (arith, common_steps) in
    c.set.ensures ∙ sym (found c.loop-i.list c.get.result c.args.element c.loop-i.i c.get.ensures same) ∙ c.loop-i.invariant.left

pub loop-i-preserved : goal.loop-i-preserved
loop-i-preserved c =
    let other : c.get.result.selector ≢ c.args.element.selector = grind (arith, common_steps) in
    record {
      same = c.loop-i.invariant.same;
      left = rw add-one (sym (passed c.loop-i.list c.get.result c.args.element c.loop-i.i c.get.ensures other) ∙ c.loop-i.invariant.left);
    }

pub returns : goal.returns
returns c =
    let same = c.loop-i.invariant.same in
    put_behind c.push.result c.loop-i.list c.args.list.now c.push.new.self c.args.element c.loop-i.i (omega (arith, c.len-i-end.ensures, ap length same)) c.loop-i.invariant.left c.push.ensures.ok
