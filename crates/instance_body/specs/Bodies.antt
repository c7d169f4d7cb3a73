-- Entering the body of an instance, step by step.
use Rattle.std.specs.Prelude.{ℕ, List, [], Option, Some, None, Result, Ok, Err}
use Rattle.std.specs.List.{fold}
use Rattle.fix_core.specs.Passes.{◌>>=◌}
use Rattle.ams_tree.specs.declared.design.Architecture.{Architecture}
use Rattle.ams_tree.specs.declared.design.DesignUnit.{DesignUnit}
use Rattle.ams_tree.specs.declared.design.Entity.{Entity}
use Rattle.flat_design.specs.Lists.{no_objects}
use Rattle.flat_design.specs.declared.objects.Objects.{Objects}
use Rattle.name_scope.specs.declared.scope.Scope.{Scope}
use Rattle.elab_meaning.specs.declared.book.Book.{Book}
use Rattle.elab_meaning.specs.declared.fault.Notes.{Notes}
use Rattle.elab_meaning.specs.Notes.{first_fault, is_of_instances}
use Rattle.unit_meaning.specs.declared.request.Request.{Request}
use Rattle.unit_meaning.specs.declared.site.Refusal.{Refusal}
use Rattle.unit_meaning.specs.declared.site.Refusal.TheVariants.{PortMismatch}
use Rattle.unit_meaning.specs.declared.site.Site.{Site}
use Rattle.unit_meaning.specs.Settings.{Setting}
use Rattle.unit_meaning.specs.Units.{opened, setting_of, judged_statement}
use Rattle.unit_meaning.specs.Walk.{Entry, Around, unbroken, within_limits}
use Rattle.walk_steps.specs.Steps.{judging, counted_with}

-- the flat design while the interface of an instance is read behind it
abbrev pub without_objects : Site → Site
without_objects s = record s { objects = no_objects; used = [] }

-- what the statements of an architecture note
abbrev pub judged : Setting → Scope → List DesignUnit → Architecture → Scope → Notes → Notes
judged w start units a scope n = fold (judged_statement w start units scope) n a.statements

abbrev pub around_with : List (List ℕ) → Request → Architecture → Book → ℕ → Around
around_with texts r a b number = record { setting = setting_of texts b a; scope = b.scope; path = r.path; number = number }

abbrev pub with_around : Around → Site → Result (Around × Site) Refusal
with_around at s = Ok (at, s)

-- an instance whose statements note this, counted with those so far unless it breaks a rule or a limit is passed
abbrev pub counted_parts : Request → Entity → Architecture → Objects → List (ℕ × ℕ) → Notes → Site → Result Site Refusal
counted_parts r e a objects used n s = unbroken (first_fault is_of_instances n.faults) (counted_with r e a objects used n.dots n.thresholds s) >>= within_limits

abbrev pub counted_around : Request → Entity → Architecture → Objects → List (ℕ × ℕ) → Notes → Site → Around → Result (Around × Site) Refusal
counted_around r e a objects used n s at = counted_parts r e a objects used n s >>= with_around at

-- an instance whose declarations are read
abbrev pub opened_book : List (List ℕ) → Scope → List DesignUnit → Request → Entity → Architecture → Book → List (ℕ × ℕ) → ℕ → Site → Result (Around × Site) Refusal
opened_book texts start units r e a b used number s =
    counted_around r e a b.objects used (judged (setting_of texts b a) start units a b.scope (judging b.notes s)) s (around_with texts r a b number)

-- an instance whose interface is read
abbrev pub opened_entry : List (List ℕ) → Scope → List DesignUnit → Request → Entity → Architecture → Entry → ℕ → Site → Result (Around × Site) Refusal
opened_entry texts start units r e a entry number s = opened_book texts start units r e a (opened texts a entry.book) entry.used number s

-- an instance behind the flat design so far: `interface_entered` is this, and then `statements_walked`
abbrev pub opened_interface : List (List ℕ) → Scope → List DesignUnit → Request → Entity → Architecture → Option Entry → ℕ → Site → Result (Around × Site) Refusal
opened_interface texts start units r e a None number s = Err (PortMismatch r.path)
opened_interface texts start units r e a (Some entry) number s = opened_entry texts start units r e a entry number s
