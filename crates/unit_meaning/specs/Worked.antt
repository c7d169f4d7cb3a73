-- Small files, worked out.
use Rattle.std.specs.Prelude.{◌≡◌, ℕ, pos, false, List, [], ◌∷◌, codes, Some, None, Ok, Err}
use Rattle.ams_token.specs.declared.token.Place.{Place}
use Rattle.ams_tree.specs.declared.expression.Name.{Name}
use Rattle.ams_tree.specs.declared.declaration.SubtypeIndication.{SubtypeIndication}
use Rattle.ams_tree.specs.declared.declaration.Declaration.{Declaration}
use Rattle.ams_tree.specs.declared.declaration.Declaration.TheVariants as declare
use Rattle.ams_tree.specs.declared.declaration.Port.{Port}
use Rattle.ams_tree.specs.declared.concurrent.Concurrent.{Concurrent}
use Rattle.ams_tree.specs.declared.concurrent.ConcurrentStatement.TheVariants as conc
use Rattle.ams_tree.specs.declared.design.DesignUnit.{DesignUnit}
use Rattle.ams_tree.specs.declared.design.DesignUnit.TheVariants as unit
use Rattle.flat_design.specs.declared.objects.Terminal.TheVariants.{Node, Reference}
use Rattle.flat_design.specs.declared.objects.QuantityKind.TheVariants.{Across, Through}
use Rattle.flat_design.specs.declared.objects.Objects.{Objects}
use Rattle.elab_meaning.specs.declared.fault.Cause.TheVariants.{Duplicate}
use Rattle.unit_meaning.specs.declared.site.Refusal.TheVariants.{NoTop, Recursive}
use Rattle.unit_meaning.specs.Units.{first_objects, type_fault}
use Rattle.unit_meaning.specs.Drivers.{flattened, unsolvable}

-- ---- texts with their numbers, and trees

abbrev pub texts : List (List ℕ)
texts = codes "e" ∷ codes "a" ∷ codes "q" ∷ codes "o" ∷ codes "u" ∷ codes "s" ∷ codes "real" ∷ codes "bit" ∷ codes "electrical" ∷ []

abbrev pub at : ℕ → Place
at column = record { line = 1; column = column }

abbrev pub named : ℕ → ℕ → Name
named number column = record { number = number; place = at column }

abbrev pub of_type : ℕ → SubtypeIndication
of_type number = record { mark = named number 0; index = None; bounds = None }

abbrev pub entity : ℕ → List Port → DesignUnit
entity name ports = unit.Entity (record { name = named name 1; generics = []; ports = ports; word_end = false; end = None })

abbrev pub architecture : ℕ → List Declaration → List Concurrent → DesignUnit
architecture of all statements =
    unit.Architecture (record { name = named 1 2; entity = named of 3; declarations = all; statements = statements; word_end = false; end = None })

-- an instance u of an entity
abbrev pub instance_of : ℕ → Concurrent
instance_of of =
    record {
      label = Some (named 4 20);
      statement = conc.Instance (record { place = at 21; library = None; entity = named of 22; architecture = None; generics = None; ports = None });
    }

-- a terminal, and a branch from it to the reference of its nature
abbrev pub with_branch : List DesignUnit
with_branch =
    entity 0 []
    ∷ architecture 0
    (declare.Terminal (at 4) (named 3 5 ∷ []) (named 8 6) ∷ declare.Across (at 7) (named 2 8 ∷ []) (Some (named 5 9 ∷ [])) (named 3 10) None ∷ []) []
    ∷ []

abbrev pub one_branch : Objects
one_branch =
    record first_objects {
      quantities =
          record { path = codes "e.q"; kind = Across (Node 0) Reference; initial = pos 0 }
          ∷ record { path = codes "e.s"; kind = Through (Node 0) Reference; initial = pos 0 }
          ∷ [];
      nodes = record { path = codes "e.o" } ∷ [];
      instances = record { path = codes "e"; equations = 0; unknowns = 1 } ∷ [];
    }

-- an entity that holds an instance of another one, of itself, and of one that isn't there
abbrev pub with_instance : ℕ → List DesignUnit
with_instance of = entity 5 [] ∷ architecture 5 [] [] ∷ entity 0 [] ∷ architecture 0 [] (instance_of of ∷ []) ∷ []

-- a signal that is declared twice
abbrev pub twice : List DesignUnit
twice = entity 0 [] ∷ architecture 0 (declare.Signal (at 6) (named 5 7 ∷ named 5 8 ∷ []) (of_type 7) None ∷ []) [] ∷ []

pub record WorkedUnits : Type 0 where
  -- an across quantity, a through quantity and a node with their paths; one unknown without an equation
  pub branch : flattened texts with_branch (codes "e") ≡ Ok one_branch
  pub fine : type_fault texts with_branch ≡ None
  pub unsolved : unsolvable one_branch ≡ Some 0
  -- without a file there is no top
  pub no_top : flattened texts [] (codes "e") ≡ Err (NoTop (codes "e"))
  pub inner : flattened texts (with_instance 5) (codes "e") ≡ Ok (record first_objects {
    instances = record { path = codes "e"; equations = 0; unknowns = 0 } ∷ record { path = codes "e.u"; equations = 0; unknowns = 0 } ∷ [];
  })
  pub itself : flattened texts (with_instance 0) (codes "e") ≡ Err (Recursive (codes "e.u"))
  pub missing : flattened texts (with_instance 2) (codes "e") ≡ Err (NoTop (codes "q"))
  pub duplicate : type_fault texts twice ≡ Some (record { place = at 8; cause = Duplicate 5 })
