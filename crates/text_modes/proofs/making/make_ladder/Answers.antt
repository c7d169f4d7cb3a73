use Rattle.std.proofs.Common.{ℕ, List, ◌≤◌, length, sym, subst, ◌∙◌}
use Rattle.ladder.specs.Ladder.{ladder_text}
use Rattle.program_output.specs.Port.{port}
use Rattle.text_modes.specs.Start.{most_bytes}
use Rattle.text_modes.proofs.LadderLength.{ladder_short}
use Rattle.text_modes.proofs.Ladders.{text_is}
use Rattle.text_modes.proofs.making.make_ladder.Goals as goal

pub make_text-requires : goal.make_text-requires
make_text-requires g c = record {
  short = subst (λ (t : List ℕ). length t ≤ most_bytes) (sym (c.as_bytes.ensures.value ∙ c.in-Ok.ensures)) (ladder_short c.args.size c.requires.size);
  allowed = c.requires.allowed;
}

pub returns-in-Ok : goal.returns-in-Ok
returns-in-Ok g c =
    let k = g.K.Sink in
    let e = g.E.Sink in
    text_is c.make_text.result c.as_bytes.result.now (ladder_text c.args.size) c.args.size c.args.options.now
    (port (k.held c.args.trace.now) (k.held c.make_text.new.trace) (k.faults c.args.trace.now) (k.faults c.make_text.new.trace))
    (port (e.held c.args.notes.now) (e.held c.make_text.new.notes) (e.faults c.args.notes.now) (e.faults c.make_text.new.notes))
    (c.as_bytes.ensures.value ∙ c.in-Ok.ensures) c.make_text.ensures
