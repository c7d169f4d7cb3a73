-- The unknowns by the elimination that is kept.
use Rattle.std.proofs.Common.{◌≡◌, ◌<◌, ◌∙◌, length, sym, subst, arith}
use Rattle.kept_rows.specs.declared.elimination.Elimination.{Elimination}
use Rattle.kept_rows.specs.Sound.{IsKeptFor}
use Rattle.kept_rows.proofs.Rooms.{by_kept}
use Rattle.kept_rows.proofs.Choosing.{sound_at}
use Rattle.kept_rows.proofs.choice.solve_first.Goals as goal

pub solve-requires : goal.solve-requires
solve-requires c =
    let at = sound_at (length c.args.rows.now) 0 c.args.eliminations.now c.index-eliminations-0.result c.requires.sound.some c.index-eliminations-0.is c.requires.sound in
    let kept : IsKeptFor c.args.rows.now c.index-eliminations-0.result = subst (IsKeptFor c.args.rows.now) (sym c.index-eliminations-0.is) (c.requires.ready c.index-eliminations-0.result) in
    record { sound = at.0; kept = kept.0; count = omega (arith, at.1, c.requires.count, c.copy_right_sides.auto.numbers); within = c.copy_right_sides.ensures.within }

pub returns : goal.returns
returns c =
    let e = c.index-eliminations-0.result in
    let at = sound_at (length c.args.rows.now) 0 c.args.eliminations.now e c.requires.sound.some c.index-eliminations-0.is c.requires.sound in
    let kept : IsKeptFor c.args.rows.now e = subst (IsKeptFor c.args.rows.now) (sym c.index-eliminations-0.is) (c.requires.ready e) in
    by_kept e.matrix.items e.turns.items e.columns.items c.args.rows.now c.copy_right_sides.new.numbers (at.0.gives kept.0) c.requires.rows kept.1 c.copy_right_sides.ensures.numbers ∙ c.solve.ensures
