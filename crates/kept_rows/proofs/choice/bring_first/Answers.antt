-- The first one, as it was or made anew.
use Rattle.std.proofs.Common.{length, refl, sym, ◌∙◌}
use Rattle.kept_rows.proofs.Choosing.{sound_set, sound_swap, sound_made, ready_at, ready_set}
use Rattle.kept_rows.proofs.choice.bring_first.Goals as goal

pub is_for-requires : goal.is_for-requires
is_for-requires c =
    let at = c.requires.sound.each 0 c.index-eliminations-0.result c.requires.sound.some in
    record { sound = at.0; count = sym at.1; rows = c.requires.rows }

pub returns-then-is_for-clause-first : goal.returns-then-is_for-clause-first
returns-then-is_for-clause-first c = λ h.
    ready_at c.args.rows.now c.args.eliminations.now c.index-eliminations-0.result c.requires.sound.some (c.is_for.ensures.kept c.if-is_for.true, c.is_for.ensures.matrix c.if-is_for.true)

pub prepare-requires : goal.prepare-requires
prepare-requires c =
    let n = length c.args.rows.now in
    let swapped = sound_swap n c.place_for-place.result c.args.eliminations.now c.swap.new.self c.place_for-place.ensures c.swap.ensures.after c.requires.sound in
    let at = swapped.each 0 c.index-eliminations-0-2.result swapped.some in
    record { sound = at.0; count = sym at.1; rows = c.requires.rows }

pub returns-clause-sound : goal.returns-clause-sound
returns-clause-sound c =
    let n = length c.args.rows.now in
    let swapped = sound_swap n c.place_for-place.result c.args.eliminations.now c.swap.new.self c.place_for-place.ensures c.swap.ensures.after c.requires.sound in
    sound_set n 0 c.swap.new.self c.prepare.new.self (sound_made n c.args.rows.now c.prepare.new.self refl c.prepare.ensures.sound c.prepare.ensures.matrix) swapped

pub returns-clause-first : goal.returns-clause-first
returns-clause-first c = λ h.
    let n = length c.args.rows.now in
    let swapped = sound_swap n c.place_for-place.result c.args.eliminations.now c.swap.new.self c.place_for-place.ensures c.swap.ensures.after c.requires.sound in
    ready_set c.args.rows.now c.swap.new.self c.prepare.new.self swapped.some (sym c.prepare.ensures.kept ∙ h, c.prepare.ensures.matrix)
