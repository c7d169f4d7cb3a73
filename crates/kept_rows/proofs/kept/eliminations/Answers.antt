-- One elimination more.
use Rattle.std.proofs.Common.{◌≡◌, ◌<◌, ◌+◌, length, subst, sym, arith}
use Rattle.std.specs.List.{All}
use Rattle.kept_rows.specs.Sound.{IsSoundFor}
use Rattle.kept_rows.proofs.Choosing.{sound_more, counted_more}
use Rattle.kept_rows.proofs.kept.eliminations.Goals as goal

pub loop-place-preserved : goal.loop-place-preserved
loop-place-preserved c = record {
  each = sound_more c.args.n c.loop-place.all.items c.push.new.self.items c.in_ok-new.field-0 c.in_ok-new.ensures c.loop-place.invariant.each c.in_ok-push.ensures.items;
  count = counted_more c.loop-place.all.items c.push.new.self.items c.in_ok-new.field-0 c.loop-place._place c.loop-place.invariant.count c.in_ok-push.ensures.items;
}

pub returns : goal.returns
returns c = record { some = omega (arith, c.loop-place.invariant.count, c.requires); each = c.loop-place.invariant.each }
