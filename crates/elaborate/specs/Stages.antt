-- What is asked of the flat design that the walk leaves.
use Rattle.std.specs.Prelude.{Result}
use Rattle.fix_core.specs.Passes.{◌>>=◌}
use Rattle.flat_design.specs.declared.objects.Objects.{Objects}
use Rattle.unit_meaning.specs.declared.site.Refusal.{Refusal}
use Rattle.unit_meaning.specs.declared.site.Site.{Site}
use Rattle.unit_meaning.specs.Drivers.{objects_of, framed}

abbrev pub flat_behind : Site → Result Objects Refusal
flat_behind s = objects_of s >>= framed
