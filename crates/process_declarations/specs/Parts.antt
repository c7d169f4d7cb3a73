-- What is read of the declarations of a process, in its region.
use Rattle.std.specs.Prelude.{Bool, true, false}
use Rattle.name_scope.specs.declared.scope.Scope.{Scope}
use Rattle.elab_meaning.specs.declared.part.Part.{Part}
use Rattle.elab_meaning.specs.declared.part.Part.TheVariants.{Kept, Hidden}
use Rattle.unit_meaning.specs.Processes.{Declared}
use Rattle.process_declarations.specs.declared.part.DeclarativePart.{DeclarativePart}

-- whether all declarations keep the rules, as a part of the process; what breaks one is noted already
abbrev pub fine_part : Bool → Part Bool
fine_part true = Kept true
fine_part false = Hidden

-- a region of names with what is read in it
abbrev pub declared_at : Scope → DeclarativePart → Declared
declared_at scope read = record { scope = scope; draft = read.draft; fine = fine_part read.is_fine }
