-- The check of a file without faults.
use Rattle.std.proofs.Common.{◌<◌, ℕ, arith, List, length, Option, sym, subst, ◌∙◌}
use Rattle.name_scope.specs.declared.thing.Thing.{Thing}
use Rattle.name_scope.specs.declared.thing.Thing.TheVariants as thing
use Rattle.unit_meaning.specs.Units.{start_of, file_faults}
use Rattle.alike_laws.specs.Alike.{AlikeThing, AlikeFound, AlikeScopes}
use Rattle.alike_laws.proofs.Start.{start_alike}
use Rattle.alike_maps.specs.Maps.{IsOutside}
use Rattle.alike_units.specs.Units.{UnitsFollow}
use Rattle.alike_units.proofs.Statements.{all_statements_follow}
use Rattle.alike_units.proofs.Faults.{none_is}
use Rattle.alike_units.proofs.Interfaces.{zeros, zeros_length, zeros_at}
use Rattle.alike_units.proofs.Units.{units_clean}

one : 0 < length (zeros 1)
one = subst (λ (k : ℕ). 0 < k) (sym (zeros_length 1)) first
  where
    first : 0 < 1
    first = omega arith

pub start_outside : (texts : List (List ℕ)) → IsOutside (start_of texts)
start_outside texts x m is =
    let alike : AlikeScopes (zeros 1) (start_of texts) (start_of texts) = start_alike (zeros 1) one (zeros_at 1 0) texts in
    let like : AlikeThing (zeros 1) (thing.Nature m) (thing.Nature m) = subst (λ (o : Option Thing). AlikeFound (zeros 1) o o) is (alike.seen x) in
    like.nature ∙ zeros_at 1 m

pub units_follow : UnitsFollow
units_follow =
    record {
      statements = all_statements_follow;
      outside = start_outside;
      none = λ texts units h k. none_is (file_faults texts units) h k;
      clean = λ readings parts declarations texts units h. units_clean readings parts declarations texts units (start_outside texts) h;
    }
