-- One change more.
use Rattle.std.proofs.Common.{◌≡◌, ◌+◌, ◌-◌, ◌<◌, length, drop, sym, ap, ◌∙◌, arith}
use Rattle.std.specs.Prelude.{max, ◌-ℤ◌, unsigned_abs}
use Rattle.step_parts.specs.Changes.{largest_change}
use Rattle.step_parts.proofs.Changing.{no_change, change_here}
use Rattle.step_parts.proofs.errors.largest_change.Goals as goal

pub loop-i-init : goal.loop-i-init
loop-i-init c = record {
  within = omega arith;
  value = sym (no_change c.args.before.now c.args.after.now (length c.args.before.now) (omega arith));
  bound = omega arith;
}

pub loop-i-preserved : goal.loop-i-preserved
loop-i-preserved c =
    let before = c.args.before.now in
    let after = c.args.after.now in
    let i = c.loop-i.i - 1 in
    let lb : i < length before = omega arith in
    let la : i < length after = omega arith in
    let back : i + 1 ≡ c.loop-i.i = omega arith in
    let here = change_here before after i c.index-before-i.result c.index-after-i.result lb la c.index-before-i.is c.index-after-i.is in
    let done : largest_change (drop (i + 1) before) (drop (i + 1) after) ≡ c.loop-i.largest = ap (λ k. largest_change (drop k before) (drop k after)) back ∙ sym c.loop-i.invariant.value in
    record {
      within = omega arith;
      value = c.max-largest.ensures ∙ ap (λ k. max k c.loop-i.largest) c.change.ensures.value ∙ sym (here ∙ ap (max (unsigned_abs (c.index-after-i.result -ℤ c.index-before-i.result))) done);
      bound = omega (arith, c.max-largest.ensures, c.change.ensures.bound, c.loop-i.invariant.bound);
    }
