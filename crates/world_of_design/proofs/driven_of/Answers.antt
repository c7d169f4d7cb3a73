use Rattle.std.proofs.Common.{◌≡◌, ◌∙◌, Bool, false, List, length, ap, filter}
use Rattle.std.specs.Prelude.{replicate}
use Rattle.std.specs.List.{range_with_len}
use Rattle.std.proofs.lemmas.List.{length-replicate}
use Rattle.flat_design.specs.declared.objects.Signal.{Signal}
use Rattle.driven_signals.specs.Driven.{flag}
use Rattle.world_of_design.proofs.Known.{drivers_known, marks_are}
use Rattle.world_of_design.proofs.driven_of.Goals as goal

pub mark_all-requires : goal.mark_all-requires
mark_all-requires c =
    rw (c.processes.ensures, c.in_ok-flags.ensures, c.signals.ensures, length-replicate (length c.args.flat.now.signals) false) (drivers_known c.args.flat.now c.requires)

pub returns : goal.returns
returns c =
    let flags : c.in_ok-flags.flags.items ≡ replicate (length c.args.flat.now.signals) false =
    c.in_ok-flags.ensures ∙ ap (λ (l : List Signal). replicate (length l) false) c.signals.ensures in
    c.in_ok-driven.ensures ∙ ap (λ (l : List Bool). filter (flag l) (range_with_len 0 (length l))) c.as_slice.ensures.value
    ∙ marks_are c.args.flat.now c.processes.result.now c.in_ok-flags.flags.items c.mark_all.new.flags.items c.processes.ensures flags c.mark_all.ensures.count c.mark_all.ensures.marks
