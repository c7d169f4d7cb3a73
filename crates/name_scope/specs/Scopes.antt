-- Names and what they stand for (IEEE 1076, 12.2 and 12.3).
use Rattle.std.specs.Prelude.{ℕ, nat_eq, List, [], ◌∷◌, ◌++◌, Option, Some, None}
use Rattle.std.specs.Map.{lookup as entry_of}
use Rattle.name_scope.specs.declared.thing.Thing.{Thing}
use Rattle.name_scope.specs.declared.thing.Thing.TheVariants.{Label}
use Rattle.name_scope.specs.declared.scope.Scope.{Scope}

-- a region's names, with what each stands for, in the order of their declarations
abbrev pub Region : Type 0
Region = List (ℕ × Thing)

abbrev pub declared_in : Region → ℕ → Option Thing
declared_in region name = entry_of (nat_eq name) region

-- a name that is declared already keeps what it stands for
abbrev pub unless_there : Option Thing → Region → ℕ → Thing → Region
unless_there (Some x) region name thing = region
unless_there None region name thing = region ++ (name, thing) ∷ []

abbrev pub with_thing : Region → ℕ → Thing → Region
with_thing region name thing = unless_there (declared_in region name) region name thing

-- an expression finds no label, and a label hides nothing
abbrev pub visible : Option Thing → Option Thing
visible (Some Label) = None
visible found = found

abbrev pub or_in : Option Thing → Option Thing → Option Thing
or_in (Some x) outer = Some x
or_in None outer = outer

-- in regions one inside the other, the outermost one first: what the innermost one that declares the name says
abbrev pub among : List Region → ℕ → Option Thing
among [] name = None
among (region ∷ inner) name = or_in (among inner name) (visible (declared_in region name))

-- what a name stands for: what the innermost region declares by it, or else the outer ones
abbrev pub lookup : Scope → ℕ → Option Thing
lookup s name = or_in (visible (declared_in s.inner name)) (among s.outer name)

abbrev pub with_name : Scope → ℕ → Thing → Scope
with_name s name thing = record { outer = s.outer; inner = with_thing s.inner name thing }

-- in a region that declares nothing yet
abbrev pub inside : Scope → Scope
inside s = record { outer = s.outer ++ s.inner ∷ []; inner = [] }
