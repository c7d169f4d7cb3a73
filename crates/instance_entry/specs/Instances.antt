-- Entering the interface of an instance, step by step.
use Rattle.std.specs.Prelude.{ℕ, List, [], Option}
use Rattle.ams_tree.specs.declared.design.Entity.{Entity}
use Rattle.flat_design.specs.declared.objects.Objects.{Objects}
use Rattle.name_scope.specs.declared.scope.Scope.{Scope}
use Rattle.elab_meaning.specs.declared.book.Book.{Book}
use Rattle.elab_meaning.specs.Notes.{no_notes}
use Rattle.unit_meaning.specs.declared.request.Assigned.{Assigned}
use Rattle.unit_meaning.specs.declared.request.Request.{Request}
use Rattle.unit_meaning.specs.Walk.{Entry, if_some, matched, generic_numbers, port_numbers, generics_entered, ports_entered, entry_of_instance}

-- what is read before the interface
abbrev pub first_entry : Scope → List ℕ → Objects → List (ℕ × ℕ) → Entry
first_entry scope path objects used = record { book = record { scope = scope; notes = no_notes; objects = objects; path = path; natures = 1 }; used = used }

abbrev pub parts_entered : List (List ℕ) → ℕ → Entity → List (ℕ × Assigned) → List (ℕ × Assigned) → Entry → Option Entry
parts_entered texts outer e generics ports s =
    if_some (λ (b : Book). ports_entered texts outer ports 0 e.ports (record { book = b; used = s.used })) (generics_entered texts generics 0 e.generics s.book)

abbrev pub ports_matched : List (List ℕ) → Request → Entity → Entry → List (ℕ × Assigned) → Option Entry
ports_matched texts r e s generics = if_some (λ (ports : List (ℕ × Assigned)). parts_entered texts r.outer e generics ports s) (matched (port_numbers e.ports) r.ports)

abbrev pub interface_entered : List (List ℕ) → Request → Entity → Entry → Option Entry
interface_entered texts r e s = if_some (ports_matched texts r e s) (matched (generic_numbers e.generics) r.generics)

-- an instance behind these objects and these used quantities
abbrev pub entry_with : List (List ℕ) → Request → Entity → Objects → List (ℕ × ℕ) → Option Entry
entry_with texts r e objects used = entry_of_instance texts r e (record { objects = objects; dots = []; thresholds = []; processes = 0; used = used })
