use Rattle.std.proofs.Common.{List, map, take, sym, ap, ◌∙◌, subst, arith}
use Rattle.std.proofs.lemmas.List.{take_all}
use Rattle.flat_design.specs.declared.objects.PathStep.{PathStep}
use Rattle.flat_design.specs.declared.objects.WaitPlace.{WaitPlace}
use Rattle.cycle_meaning.specs.Cycles.{waiting_at}
use Rattle.process_callers.proofs.Having.{grows_next, grows_whole}
use Rattle.process_callers.proofs.callers.Callers.add_process.Goals as goal

pub loop-place-preserved : goal.loop-place-preserved
loop-place-preserved c = λ count lt.
    grows_next count c.args.number (λ (w : WaitPlace). waiting_at w.path c.as_slice-text.result.now) c.as_slice-place-items.result.now c.loop-place.place-index c.place-item.result c.set_at.result.now
    c.args.self.now c.loop-place.self c.add_all.new.self c.loop-place-test.true c.place-item.is
    (c.set_at.ensures ∙ ap (λ (path : List PathStep). (waiting_at path c.as_slice-text.result.now).0) c.as_slice.ensures)
    (c.loop-place.invariant count lt) (c.in_ok-add_all.ensures count lt)

pub returns : goal.returns
returns c = λ count lt.
    grows_whole count c.args.number c.args.process.now c.as_slice-text.result.now c.as_slice-place-items.result.now c.loop-place.place-index c.args.self.now c.loop-place.self
    c.as_slice-text.ensures c.as_slice-place-items.ensures (omega arith) (c.loop-place.invariant count lt)
