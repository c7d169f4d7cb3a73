-- What a stage behind another one answers.
use Rattle.std.proofs.Common.{◌≡◌, Result, Ok, Err, sym, ap, subst}
use Rattle.fix_core.specs.Passes.{◌>>=◌}
use Rattle.flat_design.specs.declared.objects.Objects.{Objects}
use Rattle.unit_meaning.specs.declared.site.Refusal.{Refusal}
use Rattle.unit_meaning.specs.declared.site.Site.{Site}
use Rattle.unit_meaning.specs.Drivers.{objects_of, framed}
use Rattle.walk_answers.specs.declared.stop.Stop.{Stop}
use Rattle.walk_answers.specs.declared.stop.Stop.TheVariants.{Refused, OutOfMemory}
use Rattle.instance_walk.specs.Answers.{Answers}

pub behind : (found : Result Site Refusal) (s : Site) (res : Result Objects Stop) → found ≡ Ok s → Answers (objects_of s >>= framed) res → Answers (found >>= objects_of >>= framed) res
behind found s res e h = subst (λ (m : Result Site Refusal). Answers (m >>= objects_of >>= framed) res) (sym e) h

pub failed : (found : Result Site Refusal) (stop : Stop) → Answers {A = Site} found (Err stop) → Answers {A = Objects} (found >>= objects_of >>= framed) (Err stop)
failed found (Refused r) h = ap (λ (m : Result Site Refusal). m >>= objects_of >>= framed) h
failed found OutOfMemory h = tt
