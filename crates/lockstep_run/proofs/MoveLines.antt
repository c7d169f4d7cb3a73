-- The lines of a move, and those behind it.
use Rattle.std.proofs.Common.{◌≡◌, ◌++◌, List, sym, ap, ◌∙◌}
use Rattle.std.proofs.lemmas.List.{map-append}
use Rattle.flat_design.specs.declared.objects.Enumeration.{Enumeration}
use Rattle.trace_text.specs.Trace.{event_line}
use Rattle.lockstep_model.specs.Walk.{Walk, Reply, moved}
use Rattle.lockstep_model.specs.WalkLaws.{moved_keeps}
use Rattle.lockstep_model.specs.Works.{events_of}
use Rattle.trace_lines.specs.Lines.{event_lines}

pub move_lines : (enums : List Enumeration) (w : Walk) (r : Reply) →
    event_lines enums (events_of w.works) ≡ event_lines enums (moved w r).events ++ event_lines enums (events_of (moved w r).walk.works)
move_lines enums w r =
    ap (event_lines enums) (sym (moved_keeps w r).events) ∙ map-append (event_line enums) (moved w r).events (events_of (moved w r).walk.works)
