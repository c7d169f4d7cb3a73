-- One step of the walk over the instances: an instance whose body is entered.
use Rattle.std.specs.Prelude.{◌≡◌, ◌≤◌, ◌<◌, ℕ, ◌+◌, List, length, Option, Some, None}
use Rattle.std.specs.List.{fold}
use Rattle.ams_tree.specs.declared.concurrent.ConcurrentStatement.{ConcurrentStatement}
use Rattle.ams_tree.specs.declared.concurrent.ConcurrentStatement.TheVariants as conc
use Rattle.ams_tree.specs.declared.design.Architecture.{Architecture}
use Rattle.ams_tree.specs.declared.design.DesignUnit.{DesignUnit}
use Rattle.ams_tree.specs.declared.design.Entity.{Entity}
use Rattle.flat_design.specs.Limits.{unknown_limit, signal_limit, process_limit, threshold_limit, instance_limit}
use Rattle.elab_meaning.specs.declared.book.Book.{Book}
use Rattle.elab_meaning.specs.declared.fault.Notes.{Notes}
use Rattle.elab_meaning.specs.Notes.{first_fault, is_of_instances}
use Rattle.unit_meaning.specs.declared.request.Request.{Request}
use Rattle.unit_meaning.specs.declared.site.Site.{Site}
use Rattle.unit_meaning.specs.Associations.{entity_in, architecture_in}
use Rattle.unit_meaning.specs.Units.{start_of, opened, setting_of, judged_statement}
use Rattle.unit_meaning.specs.Walk.{Entry, Around, entry_of_instance, counted}

-- what the statements of an instance note, beside its declarations' faults
abbrev pub body_notes : List (List ℕ) → List DesignUnit → Architecture → Entry → Site → Notes
body_notes texts units a entry s =
    let b = opened texts a entry.book in
    fold (judged_statement (setting_of texts b a) (start_of texts) units b.scope) (record { faults = b.notes.faults; dots = s.dots; thresholds = s.thresholds }) a.statements

-- the flat design with an instance, before its statements are walked
abbrev pub begun : List (List ℕ) → List DesignUnit → Request → Entity → Architecture → Entry → Site → Site
begun texts units r e a entry s = counted r e a entry (opened texts a entry.book) (body_notes texts units a entry s) s

-- where they are walked
abbrev pub around_body : List (List ℕ) → Request → Architecture → Entry → Site → Around
around_body texts r a entry s =
    let b = opened texts a entry.book in
    record { setting = setting_of texts b a; scope = b.scope; path = r.path; number = length s.objects.instances }

-- the limits that are tested on all instances so far
pub record IsWithin (s : Site) : Type 0 where
  pub unknowns : length s.objects.quantities + length s.objects.nodes + length s.dots ≤ unknown_limit
  pub signals : length s.objects.signals ≤ signal_limit
  pub processes : s.processes ≤ process_limit
  pub thresholds : length s.thresholds ≤ threshold_limit

-- what the tests on entering an instance have found
pub record IsEntered (texts : List (List ℕ)) (units : List DesignUnit) (r : Request) (s : Site) (e : Entity) (a : Architecture) (entry : Entry) : Type 0 where
  pub room : length s.objects.instances < instance_limit
  pub entity_is : entity_in units r.entity ≡ Some e
  pub architecture_is : architecture_in units r.entity r.architecture ≡ Some a
  pub entry_is : entry_of_instance texts r e s ≡ Some entry
  pub unbroken : first_fault is_of_instances (body_notes texts units a entry s).faults ≡ None
  pub limits : IsWithin (begun texts units r e a entry s)

abbrev pub IsNoInstance : ConcurrentStatement → Type 0
IsNoInstance (conc.Instance i) = ⊥
IsNoInstance x = Unit {0}
