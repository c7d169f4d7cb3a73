use Rattle.std.proofs.Common.{◌≡◌, ◌∙◌, ◌<◌, ℕ, refl, length, get_or, arith}
use Rattle.std.proofs.lemmas.List.{get_or_default}
use Rattle.process_runs.proofs.Called.{next_called}
use Rattle.timeout_entry.proofs.Entering.{entered_first, entered_called}
use Rattle.timeout_entry.proofs.entry.enter_called.Goals as goal

pub loop-number-init : goal.loop-number-init
loop-number-init c = record {
  same = entered_first c.args.timeouts.now c.args.timeouts.now c.args.kept.now c.args.ran.now c.args.called.now c.requires.kept c.requires.ran c.requires.called refl;
  count = refl;
}

pub loop-number-preserved : goal.loop-number-preserved
loop-number-preserved c =
    let number : ℕ = get_or c.args.called.now c.loop-number.number-index 0 in
    let is : next_called c.args.called.now (length c.args.timeouts.now) c.loop-number.number-index ≡ number =
    get_or_default c.args.called.now c.loop-number.number-index (length c.args.timeouts.now) 0 c.loop-number-test.true in
    let within : number < length c.args.timeouts.now = c.requires.called.within c.loop-number.number-index 0 c.loop-number-test.true in
    record {
      same =
          entered_called c.args.timeouts.now c.loop-number.timeouts c.enter.new.timeouts c.args.kept.now c.args.ran.now c.args.called.now c.loop-number.number-index number
          c.timeout_at-at.result c.flag_at-entering.result c.requires.kept c.requires.ran c.requires.called c.loop-number-test.true is (omega (arith, within, c.requires.kept))
          c.timeout_at-at.ensures c.flag_at-entering.ensures c.loop-number.invariant.same c.in_ok-enter.ensures.set;
      count = c.enter.ensures.count ∙ c.loop-number.invariant.count;
    }
