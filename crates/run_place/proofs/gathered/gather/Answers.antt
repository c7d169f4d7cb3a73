use Rattle.std.proofs.Common.{sym, ap, ◌∙◌, add-one, arith}
use Rattle.lockstep_model.specs.Lockstep.{gathered_with}
use Rattle.std.proofs.Common.{drop, suc}
use Rattle.run_place.proofs.Gathering.{gathered_more, gathered_all}
use Rattle.run_place.proofs.gathered.gather.Goals as goal

pub loop-k-preserved : goal.loop-k-preserved
loop-k-preserved c =
    record {
      left =
          rw add-one
          (ap (λ xs. gathered_with xs (drop (suc c.loop-k.k) c.args.more.now)) c.in_ok-put.ensures
          ∙ sym (gathered_more c.loop-k.list c.args.more.now c.get.result c.loop-k.k c.get.ensures) ∙ c.loop-k.invariant.left);
    }

pub returns : goal.returns
returns c = sym (gathered_all c.loop-k.list c.args.more.now c.loop-k.k (omega arith)) ∙ c.loop-k.invariant.left
