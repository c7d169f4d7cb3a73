-- One right side more is scaled.
use Rattle.std.proofs.Common.{◌<◌, length, subst, ◌∙◌, sym, arith}
use Rattle.std.proofs.lemmas.List.Elements.{All-set, All-get_or}
use Rattle.fix_core.specs.Fixed.{IsInRange}
use Rattle.kept_rows.proofs.Turning.{raised_all_more, raised-within}
use Rattle.kept_rows.proofs.turns.raise_all.Goals as goal

pub loop-i-preserved : goal.loop-i-preserved
loop-i-preserved c =
    let bs = c.loop-i.numbers in
    let i = c.loop-i.i in
    let ht : i < length c.args.turns.now = omega arith in
    let hb : i < length bs = omega arith in
    let here : IsInRange c.index-numbers-i.result = subst IsInRange (sym c.index-numbers-i.is) (All-get_or IsInRange bs i c.index-numbers-i.result hb c.loop-i.invariant.within) in
    record {
      so_far = c.loop-i.invariant.so_far ∙ raised_all_more c.args.turns.now bs i c.index-numbers-i.result c.in_ok-numbers.field-0 ht hb c.index-numbers-i.is (sym c.in_ok-numbers.ensures);
      within = All-set IsInRange bs i c.in_ok-numbers.field-0 (raised-within _ c.index-numbers-i.result c.in_ok-numbers.field-0 here (sym c.in_ok-numbers.ensures)) c.loop-i.invariant.within;
    }
