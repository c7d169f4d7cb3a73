-- The texts of values that have room in an array.
use Rattle.std.specs.Prelude.{◌≤◌, ⊤, List, length}
use Rattle.std.specs.List.{slice_get}
use Rattle.ams_value.specs.declared.val.Val.{Val}
use Rattle.ams_value.specs.declared.val.Val.TheVariants as val
use Rattle.flat_design.specs.declared.objects.Enumeration.{Enumeration}
use Rattle.trace_text.specs.Trace.{literal_in}
use Rattle.commit_trace.specs.declared.text.TheConstants.{VALUE_ROOM}

-- a literal has at most so many bytes, and a vector so many elements
abbrev pub HasRoom : List Enumeration → Val → Type 0
HasRoom enums (val.Enum number position) = length (literal_in (slice_get enums number) position) ≤ VALUE_ROOM
HasRoom enums (val.Bits elements content) = elements ≤ VALUE_ROOM
HasRoom enums _ = ⊤
