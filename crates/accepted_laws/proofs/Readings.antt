-- Where an instance breaks no rule, each expression that breaks none in its scope is found.
use Rattle.std.proofs.Common.{ℕ, IsSome, List, [], ◌∷◌, Option, Some, None, IfSome, refl, sym, subst, ◌∙◌}
use Rattle.std.specs.List.{fold}
use Rattle.ams_tree.specs.declared.concurrent.Concurrent.{Concurrent}
use Rattle.ams_tree.specs.declared.design.Architecture.{Architecture}
use Rattle.ams_tree.specs.declared.design.DesignUnit.{DesignUnit}
use Rattle.ams_tree.specs.declared.design.Entity.{Entity}
use Rattle.name_scope.specs.declared.scope.Scope.{Scope}
use Rattle.elab_meaning.specs.declared.book.Book.{Book}
use Rattle.elab_meaning.specs.declared.fault.Notes.{Notes}
use Rattle.elab_meaning.specs.Expressions.{expression}
use Rattle.unit_meaning.specs.declared.request.Request.{Request}
use Rattle.unit_meaning.specs.declared.site.Site.{Site}
use Rattle.unit_meaning.specs.Settings.{Setting}
use Rattle.unit_meaning.specs.Units.{start_of, setting_of, opened, statement_notes, judged_statement}
use Rattle.unit_meaning.specs.Walk.{Entry, quantity_count}
use Rattle.walk_laws.specs.Steps.{body_notes, IsEntered}
use Rattle.scope_laws.specs.Holds.{HasNoFaults}
use Rattle.kept_laws.specs.Kept.{IsThere, NamesAreFaultless}
use Rattle.kept_laws.proofs.Reading.{readings_keep}
use Rattle.made_count_laws.proofs.Parts.{before_breaks}
use Rattle.made_count_laws.proofs.Books.{Makes}
use Rattle.made_count_laws.proofs.Declarations.{One, opened_makes}
use Rattle.made_count_laws.proofs.Interface.{start_sound, begin, interface_makes}
use Rattle.selector_laws.specs.Selectors.{KeepsReadings}
use Rattle.accepted_laws.proofs.Instances.{breaks_alike}

there : (A : Type 0) (o : Option A) → IsThere o → IsSome o
there A (Some a) h = refl
there A None h = absurd h

-- in a scope whose names are of declarations that keep the rules
faultless_keeps : (texts : List (List ℕ)) (scope : Scope) → NamesAreFaultless scope → KeepsReadings texts scope
faultless_keeps texts scope names x c n none =
    let on = (expression texts scope x c n).0 in
    let before = before_breaks n n on on (readings_keep.alike texts scope x c n n) none in
    there _ (expression texts scope x c n).1 (readings_keep.kept texts scope x c n names (none ∙ sym before.0))

-- nothing was broken before statements behind which nothing is
before_statements : (w : Setting) (start : Scope) (units : List DesignUnit) (scope : Scope) (all : List Concurrent) (n : Notes)
    → HasNoFaults (fold (judged_statement w start units scope) n all) → HasNoFaults n
before_statements w start units scope [] n h = h
before_statements w start units scope (c ∷ more) n h =
    let on = statement_notes w start units scope c.label c.statement n in
    (before_breaks n n on on (breaks_alike w start units scope c.label c.statement n n) (before_statements w start units scope more on h)).0

module _ (texts : List (List ℕ)) (units : List DesignUnit) (r : Request) (s : Site) (e : Entity) (a : Architecture) (entry : Entry) (h : IsEntered texts units r s e a entry)
    (none : HasNoFaults (body_notes texts units a entry s)) where
  abbrev book : Book
  book = opened texts a entry.book

  quiet : HasNoFaults book.notes
  quiet = before_statements (setting_of texts book a) (start_of texts) units book.scope a.statements (record { faults = book.notes.faults; dots = s.dots; thresholds = s.thresholds }) none

  entered : Makes One 0 (begin texts r e s) entry.book
  entered = subst (λ (o : Option Entry). IfSome o (λ (x : Entry). Makes One 0 (begin texts r e s) x.book)) h.entry_is (interface_makes texts r e s)

  declared : Makes One (quantity_count a.declarations) entry.book book
  declared = opened_makes texts a entry.book

  names : NamesAreFaultless book.scope
  names = declared.right tt quiet (entered.right tt (declared.before quiet) (start_sound texts))

  pub readings_kept : KeepsReadings texts book.scope
  readings_kept = faultless_keeps texts book.scope names
