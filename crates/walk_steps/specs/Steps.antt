-- The flat design between two steps of the walk.
use Rattle.std.specs.Prelude.{ℕ, ◌+◌, List, []}
use Rattle.ams_tree.specs.declared.design.Entity.{Entity}
use Rattle.ams_tree.specs.declared.design.Architecture.{Architecture}
use Rattle.flat_design.specs.declared.objects.Objects.{Objects}
use Rattle.flat_design.specs.declared.objects.Threshold.{Threshold}
use Rattle.elab_meaning.specs.declared.fault.Notes.{Notes}
use Rattle.unit_meaning.specs.declared.request.Request.{Request}
use Rattle.unit_meaning.specs.declared.site.Site.{Site}
use Rattle.unit_meaning.specs.Walk.{with_instance, process_count}

-- without the dots and thresholds that are numbered
abbrev pub unnumbered : Site → Site
unnumbered s = record s { objects = record s.objects { dots = []; thresholds = [] } }

-- the notes with which statements are judged
abbrev pub judging : Notes → Site → Notes
judging n s = record { faults = n.faults; dots = s.dots; thresholds = s.thresholds }

-- without the dots and thresholds that are counted
abbrev pub without_notes : Site → Site
without_notes s = record s { dots = []; thresholds = [] }

-- an instance counted with those so far: `counted` by the parts that it reads
abbrev pub counted_with : Request → Entity → Architecture → Objects → List (ℕ × ℕ) → List ℕ → List Threshold → Site → Site
counted_with r e a objects used dots thresholds s =
    record {
      objects = with_instance r e a objects;
      dots = dots;
      thresholds = thresholds;
      processes = s.processes + process_count a.statements;
      used = used;
    }
