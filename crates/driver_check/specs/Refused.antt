-- What a call that asks something of a design answers.
use Rattle.std.specs.Prelude.{Option, Some, None, Result, Ok, Err}
use Rattle.flat_design.specs.declared.objects.Objects.{Objects}
use Rattle.fix_core.specs.Passes.{◌>>=◌}
use Rattle.unit_meaning.specs.declared.site.Refusal.{Refusal}
use Rattle.unit_meaning.specs.Drivers.{doubly_driven, driven, framed}

-- the objects, unless they are refused
abbrev pub unless : Option Refusal → Objects → Result Objects Refusal
unless (Some refusal) o = Err refusal
unless None o = Ok o

-- the objects, unless their drivers or their frame are refused
abbrev pub judged : Objects → Result Objects Refusal
judged o = driven o (doubly_driven o) >>= framed
