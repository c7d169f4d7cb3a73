use Rattle.std.proofs.Common.{◌≡◌, ◌<◌, length, sym, arith}
use Rattle.kept_rows.proofs.Choosing.{sound_at}
use Rattle.kept_rows.proofs.choice.place_of.Goals as goal

pub is_for-requires : goal.is_for-requires
is_for-requires c =
    let n = length c.args.rows.now in
    let h : c.loop-i.i < length c.args.eliminations.now = omega arith in
    let at = sound_at n c.loop-i.i c.args.eliminations.now c.index-eliminations-i.result h c.index-eliminations-i.is c.requires.sound in
    record { sound = at.0; count = sym at.1; rows = c.requires.rows }
