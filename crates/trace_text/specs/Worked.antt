-- Lines of traces, written out.
use Rattle.std.specs.Prelude.{◌≡◌, pos, negsuc, List, [], ◌∷◌, ◌++◌, codes, Some, None, true}
use Rattle.ams_value.specs.declared.val.Val.TheVariants as val
use Rattle.flat_design.specs.declared.objects.Quantity.{Quantity}
use Rattle.flat_design.specs.declared.objects.QuantityKind.TheVariants.{Free}
use Rattle.flat_design.specs.declared.objects.Objects.{Objects}
use Rattle.flat_design.specs.Lists.{no_objects}
use Rattle.step_data.specs.declared.event.Event.TheVariants as event
use Rattle.step_data.specs.declared.outcome.End.TheVariants as end
use Rattle.step_data.specs.declared.outcome.Options.{Options}
use Rattle.step_data.specs.declared.outcome.Refusal.{Refusal}
use Rattle.trace_text.specs.Trace.{event_line, end_line, header}

-- quantity q : real; differentiated, in an entity e
abbrev pub differentiated : Objects
differentiated = record no_objects { quantities = record { path = codes "e.q"; kind = Free; initial = pos 0 } ∷ []; dots = 0 ∷ [] }

abbrev pub options : Options
options = record { stop = 10000; ahead = 64; h0 = 5000; hmin = 5000; hmax = 5000; tol = 1000000; ltol = 1000000000; xres = 1 }

pub record WorkedLines : Type 0 where
  pub first : header differentiated (codes "e") options ≡ codes "A 2 e 10000 5000 5000 5000 1000000 1000000000 1\nU 0 e.q\nU 1 e.q'dot\n"
  pub point : event_line [] (event.Solved 0 1 (pos 2500000000000 ∷ negsuc 4994999 ∷ [])) ≡ codes "P 0 1 2.5 -0.000004995\n"
  pub crossing : event_line [] (event.Cross 500001 0 0 true) ≡ codes "X 500001 0 0 true\n"
  pub signal : event_line [] (event.Signal 12000 0 0 (val.Real (pos 50000000000000))) ≡ codes "S 12000 0 0 50.0\n"
  pub vector : event_line [] (event.Signal 0 1 3 (val.Bits 4 5)) ≡ codes "S 0 1 3 0101\n"
  pub broken : event_line [] (event.Broke 0 0 (record { selector = 4; quantity = 4; value = pos 0 } ∷ [])) ≡ codes "B 0 0 4 4 0.0\n"
  pub report : event_line [] (event.Report 0 0 3 (codes "Assertion violation.")) ≡ codes "R 0 0 failure Assertion violation.\n"
  pub reached : end_line (end.Reached 10000) ≡ codes "E 10000\n"
  pub refused : end_line (end.Refused 20000 (record { code = 64; detail = Some 32 })) ≡ codes "F 20000 64 32\n"
  pub bare : end_line (end.Refused 0 (record { code = 72; detail = None })) ≡ codes "F 0 72\n"
