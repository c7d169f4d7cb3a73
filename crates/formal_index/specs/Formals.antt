-- Formals by the names of entities.
use Rattle.std.specs.Prelude.{◌≡◌, ℕ, List, Option, Some, refl}
use Rattle.std.specs.Coded.{Coded, code_by, coded×, coded_ℕ, coded_list}
use Rattle.ams_tree.specs.contracts.design.DesignUnit as written
use Rattle.ams_tree.specs.declared.design.DesignUnit.{DesignUnit}
use Rattle.ams_tree.specs.declared.design.Entity.{Entity}
use Rattle.unit_meaning.specs.Associations.{entity_in, generic_formals, port_formals}
use Rattle.unit_meaning.specs.Units.{start_of}
use Rattle.formal_index.specs.declared.index.EntityFormals.{EntityFormals}

-- the texts of names, and the units
pub record File : Type 0 where
  pub texts : List (List ℕ)
  pub units : List DesignUnit

abbrev pub file_code : Coded File
file_code =
    code_by (List (List ℕ) × List DesignUnit) (coded× (coded_list (coded_list coded_ℕ)) (coded_list written.the_row.coded)) (λ f. (f.texts, f.units)) (λ p. record { texts = p.0; units = p.1 }) (λ _. refl)

-- the formals of an entity
abbrev pub IsOf : List (List ℕ) → Option Entity → EntityFormals → Type 0
IsOf texts e f = (f.generics ≡ generic_formals texts (start_of texts) e) × (f.ports ≡ port_formals e)

-- what is kept for a name are the formals of the first entity of this name
abbrev pub AreFormals : List (List ℕ) → List DesignUnit → (ℕ → Option EntityFormals) → Type 0
AreFormals texts units find = (x : ℕ) (f : EntityFormals) → find x ≡ Some f → IsOf texts (entity_in units x) f
