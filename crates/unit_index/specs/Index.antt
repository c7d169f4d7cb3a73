-- Design units by their places in a file.
use Rattle.std.specs.Prelude.{◌≡◌, ℕ, ◌+◌, List, take, slice_get, Option, Some, None, refl}
use Rattle.std.specs.Coded.{Coded, code_by, coded×, coded_ℕ, coded_list}
use Rattle.ams_tree.specs.contracts.design.DesignUnit as written
use Rattle.ams_tree.specs.declared.design.DesignUnit.{DesignUnit}
use Rattle.ams_tree.specs.declared.design.DesignUnit.TheVariants as unit
use Rattle.ams_tree.specs.declared.design.Entity.{Entity}
use Rattle.ams_tree.specs.declared.design.Architecture.{Architecture}
use Rattle.unit_meaning.specs.Associations.{entity_in, architecture_in}

-- the units of a file, and how many of them are known
pub record Known : Type 0 where
  pub all : List DesignUnit
  pub count : ℕ

abbrev pub known_code : Coded Known
known_code =
    code_by (List DesignUnit × ℕ) (coded× (coded_list written.the_row.coded) coded_ℕ) (λ u. (u.all, u.count)) (λ p. record { all = p.0; count = p.1 }) (λ _. refl)

abbrev pub known : Known → List DesignUnit
known u = take u.count u.all

abbrev pub one_more : Known → Known
one_more u = record { all = u.all; count = u.count + 1 }

abbrev pub entity_of : DesignUnit → Option Entity
entity_of (unit.Entity e) = Some e
entity_of (unit.Library names) = None
entity_of (unit.Use paths) = None
entity_of (unit.Architecture a) = None

abbrev pub architecture_of : DesignUnit → Option Architecture
architecture_of (unit.Architecture a) = Some a
architecture_of (unit.Library names) = None
architecture_of (unit.Use paths) = None
architecture_of (unit.Entity e) = None

abbrev pub some_entity : Option DesignUnit → Option Entity
some_entity (Some u) = entity_of u
some_entity None = None

abbrev pub some_architecture : Option DesignUnit → Option Architecture
some_architecture (Some u) = architecture_of u
some_architecture None = None

-- the entity at a place, where there is one
abbrev pub entity_at : List DesignUnit → Option ℕ → Option Entity
entity_at all (Some i) = some_entity (slice_get all i)
entity_at all None = None

abbrev pub architecture_at : List DesignUnit → Option ℕ → Option Architecture
architecture_at all (Some i) = some_architecture (slice_get all i)
architecture_at all None = None

-- the places that are kept for the first so many units
pub record AreFound (all : List DesignUnit) (count : ℕ) (entities : ℕ → Option ℕ) (architectures : ℕ → Option ℕ) (named : ℕ → ℕ → Option ℕ) : Type 0 where
  pub entity : (x : ℕ) → entity_in (take count all) x ≡ entity_at all (entities x)
  pub last : (x : ℕ) → architecture_in (take count all) x None ≡ architecture_at all (architectures x)
  pub architecture : (x y : ℕ) → architecture_in (take count all) x (Some y) ≡ architecture_at all (named x y)

-- which unit is the next
abbrev pub is_entity_next : Known → Entity → Type 0
is_entity_next u e = slice_get u.all u.count ≡ Some (unit.Entity e)

abbrev pub is_architecture_next : Known → Architecture → Type 0
is_architecture_next u a = slice_get u.all u.count ≡ Some (unit.Architecture a)

-- neither an entity nor an architecture
abbrev pub is_other : Option DesignUnit → Type 0
is_other (Some (unit.Library names)) = Unit {0}
is_other (Some (unit.Use paths)) = Unit {0}
is_other _ = ⊥

abbrev pub is_other_next : Known → Type 0
is_other_next u = is_other (slice_get u.all u.count)
