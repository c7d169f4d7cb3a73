-- A flat design has as many equations as unknowns.
use Rattle.std.proofs.Common.{◌≡◌, ℕ, Bool, IsTrue, List, length, position, None, Ok, subst}
use Rattle.std.specs.Str.{bytes_eq}
use Rattle.ams_tree.specs.declared.design.DesignUnit.{DesignUnit}
use Rattle.flat_design.specs.Order.{unknown_count, equation_names}
use Rattle.flat_design.specs.declared.objects.Objects.{Objects}
use Rattle.unit_meaning.specs.declared.request.Request.{Request}
use Rattle.unit_meaning.specs.Drivers.{flattened, unsolvable}
use Rattle.checked_laws.proofs.Whole.{flat_designs_are_checked}
use Rattle.tally_laws.specs.Tally.{IsTallied}
use Rattle.tally_laws.proofs.Whole.{walks_are_tallied}
use Rattle.made_count_laws.specs.Counts.{InstancesAreFine, StatementsBreakAlike}
use Rattle.made_count_laws.proofs.Whole.{counts_are_made}
use Rattle.count_laws.specs.Counts.{EquationsMatchUnknowns}
use Rattle.count_laws.proofs.Names.{as_many}

flat_counts : (texts : List (List ℕ)) (units : List DesignUnit) (top : List ℕ) (objects : Objects) (keeps : Request → Bool)
    → StatementsBreakAlike → InstancesAreFine texts units (λ r. IsTrue (keeps r)) → flattened texts units top ≡ Ok objects → unsolvable objects ≡ None
    → length (equation_names objects) ≡ unknown_count objects
flat_counts texts units top objects keeps again fine h solvable =
    let flat = flat_designs_are_checked.flat texts units top objects h in
    let tallied : IsTallied flat.site.objects = walks_are_tallied texts units top (position (bytes_eq top) texts) flat.site keeps (counts_are_made texts units keeps again fine) flat.walked_is in
    as_many objects (subst IsTallied flat.objects_are tallied) (flat_designs_are_checked.instances objects solvable)

pub equations_match_unknowns : EquationsMatchUnknowns
equations_match_unknowns = record {
  tallied = λ objects t h. as_many objects t h;
  flat = λ texts units top objects keeps again fine h solvable. flat_counts texts units top objects keeps again fine h solvable;
}
