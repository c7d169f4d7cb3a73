-- What the test of the limits answers.
use Rattle.std.specs.Prelude.{◌+◌, nat_lt, Bool, length, Option, Some, None, Result, Ok, Err}
use Rattle.flat_design.specs.Limits.{unknown_limit}
use Rattle.unit_meaning.specs.declared.site.Limit.{Limit}
use Rattle.unit_meaning.specs.declared.site.Refusal.{Refusal}
use Rattle.unit_meaning.specs.declared.site.Refusal.TheVariants.{TooMany}
use Rattle.unit_meaning.specs.declared.site.Site.{Site}

abbrev pub has_many_unknowns : Site → Bool
has_many_unknowns s = nat_lt unknown_limit (length s.objects.quantities + length s.objects.nodes + length s.dots)

-- the flat design so far, unless it is past a limit
abbrev pub unless_passed : Option Limit → Site → Result Site Refusal
unless_passed (Some limit) s = Err (TooMany limit)
unless_passed None s = Ok s
