-- An instance that breaks no rule makes what it counts.
use Rattle.std.proofs.Common.{◌≡◌, ℕ, ◌+◌, Bool, IsTrue, List, [], ◌∷◌, ◌++◌, Option, Some, IfSome, refl, sym, ap, subst, ◌∙◌, arith, append-nil}
use Rattle.std.specs.List.{fold, All}
use Rattle.std.proofs.lemmas.List.Elements.{All-nil, All-cons}
use Rattle.ams_tree.specs.declared.expression.Name.{Name}
use Rattle.ams_tree.specs.declared.concurrent.Concurrent.{Concurrent}
use Rattle.ams_tree.specs.declared.concurrent.ConcurrentStatement.{ConcurrentStatement}
use Rattle.ams_tree.specs.declared.concurrent.ConcurrentStatement.TheVariants as conc
use Rattle.ams_tree.specs.declared.design.Architecture.{Architecture}
use Rattle.ams_tree.specs.declared.design.DesignUnit.{DesignUnit}
use Rattle.ams_tree.specs.declared.design.Entity.{Entity}
use Rattle.name_scope.specs.declared.scope.Scope.{Scope}
use Rattle.elab_meaning.specs.declared.book.Book.{Book}
use Rattle.elab_meaning.specs.declared.fault.Fault.{Fault}
use Rattle.elab_meaning.specs.declared.fault.Notes.{Notes}
use Rattle.unit_meaning.specs.declared.request.Request.{Request}
use Rattle.unit_meaning.specs.declared.site.Site.{Site}
use Rattle.unit_meaning.specs.Concurrent.{concurrent}
use Rattle.unit_meaning.specs.Settings.{Setting}
use Rattle.unit_meaning.specs.Units.{start_of, setting_of, opened, statement_notes, judged_statement}
use Rattle.unit_meaning.specs.Walk.{Entry, entry_of_instance, quantity_count}
use Rattle.walk_laws.specs.Steps.{body_notes, around_body, IsEntered, IsNoInstance}
use Rattle.kept_laws.specs.Kept.{BreaksAlike, NamesAreFaultless}
use Rattle.tally_laws.specs.Tally.{quantity_sum, made_size, MakesAsCounted, CountsAreMade}
use Rattle.made_count_laws.specs.Counts.{InstancesAreFine, StatementsBreakAlike, InstancesMakeCounts}
use Rattle.made_count_laws.proofs.Parts.{NoFaults, before_breaks}
use Rattle.made_count_laws.proofs.Books.{Makes}
use Rattle.made_count_laws.proofs.Declarations.{One, opened_makes}
use Rattle.made_count_laws.proofs.Interface.{start_sound, begin, interface_makes}
use Rattle.made_count_laws.proofs.Simultaneous.{makes_as_counted}

-- ---- statements

module _ (w : Setting) (start : Scope) (units : List DesignUnit) (scope : Scope) (again : StatementsBreakAlike) where
  -- a statement that breaks nothing from these notes breaks nothing from others
  abbrev BreaksNothing : Concurrent → Type 0
  BreaksNothing c = (n : Notes) → NoFaults n → NoFaults (statement_notes w start units scope c.label c.statement n)

  -- where nothing is broken behind the statements, nothing was before, and none breaks anything
  record AllQuiet (n : Notes) (all : List Concurrent) : Type 0 where
    before : NoFaults n
    each : All BreaksNothing all

  quiet_one : (c : Concurrent) (n : Notes) → NoFaults (judged_statement w start units scope n c) → (NoFaults n × BreaksNothing c)
  quiet_one c n f =
      let on = statement_notes w start units scope c.label c.statement n in
      let none = (before_breaks n n on on (again w start units scope c.label c.statement n n) f).0 in (
        none,
        λ m g.
            let p = again w start units scope c.label c.statement n m in
            let rest : p.more ≡ [] = (before_breaks n m on (statement_notes w start units scope c.label c.statement m) p f).1 in
            p.second ∙ (ap (λ (l : List Fault). m.faults ++ l) rest ∙ (append-nil m.faults ∙ g)),
      )

  all_quiet : (all : List Concurrent) (n : Notes) → NoFaults (fold (judged_statement w start units scope) n all) → AllQuiet n all
  all_quiet [] n f = record { before = f; each = All-nil BreaksNothing }
  all_quiet (c ∷ more) n f =
      let rest = all_quiet more (judged_statement w start units scope n c) f in
      let one = quiet_one c n rest.before in
      record { before = one.0; each = All-cons BreaksNothing c more one.1 rest.each }

-- what a statement that is no instance notes is what is noted where it is read
statement_same : (w : Setting) (start : Scope) (units : List DesignUnit) (scope : Scope) (label : Option Name) (x : ConcurrentStatement) (n : Notes) → IsNoInstance x
    → statement_notes w start units scope label x n ≡ (concurrent w scope label x n).0
statement_same w start units scope label (conc.Process p) n plain = refl
statement_same w start units scope label (conc.Assign x d all last when) n plain = refl
statement_same w start units scope label (conc.Assert a) n plain = refl
statement_same w start units scope label (conc.Break p all names when) n plain = refl
statement_same w start units scope label (conc.Equation q) n plain = refl
statement_same w start units scope label (conc.If p all last) n plain = refl
statement_same w start units scope label (conc.Case p x all) n plain = refl
statement_same w start units scope label (conc.Instance i) n plain = absurd plain

-- ---- instances

module _ (texts : List (List ℕ)) (units : List DesignUnit) (Q : Request → Type 0) (again : StatementsBreakAlike) (fine : InstancesAreFine texts units Q) where
  module _ (r : Request) (s : Site) (e : Entity) (a : Architecture) (entry : Entry) (keeps : Q r) (h : IsEntered texts units r s e a entry) where
    abbrev book : Book
    book = opened texts a entry.book

    abbrev counted : Notes
    counted = record { faults = book.notes.faults; dots = s.dots; thresholds = s.thresholds }

    quiet : AllQuiet (setting_of texts book a) (start_of texts) units book.scope again counted a.statements
    quiet = all_quiet (setting_of texts book a) (start_of texts) units book.scope again a.statements counted (fine.fine r s e a entry keeps h)

    entered : Makes One 0 (begin texts r e s) entry.book
    entered = subst (λ (o : Option Entry). IfSome o (λ (x : Entry). Makes One 0 (begin texts r e s) x.book)) h.entry_is (interface_makes texts r e s)

    declared : Makes One (quantity_count a.declarations) entry.book book
    declared = opened_makes texts a entry.book

    none_broken : NoFaults entry.book.notes
    none_broken = declared.before quiet.before

    entry_sound : NamesAreFaultless entry.book.scope
    entry_sound = entered.right tt none_broken (start_sound texts)

    book_sound : NamesAreFaultless book.scope
    book_sound = declared.right tt quiet.before entry_sound

    quantities_made : quantity_sum book.objects.quantities ≡ quantity_sum s.objects.quantities + quantity_count a.declarations
    quantities_made =
        let one = declared.counted tt quiet.before entry_sound in
        let two = entered.counted tt none_broken (start_sound texts) in
        omega (arith, one, two)

    one_made : (c : Concurrent) → BreaksNothing (setting_of texts book a) (start_of texts) units book.scope again c → MakesAsCounted (around_body texts r a entry s) c
    one_made c k plain n none =
        makes_as_counted (setting_of texts book a) book.scope c.label c.statement n plain book_sound
        (subst NoFaults (statement_same (setting_of texts book a) (start_of texts) units book.scope c.label c.statement n plain) (k n none))

    each_made : All (MakesAsCounted (around_body texts r a entry s)) a.statements
    each_made i d lt = one_made _ (quiet.each i d lt)

  pub counts_made : CountsAreMade texts units Q
  counts_made =
      record {
        top = fine.top;
        inner = fine.inner;
        quantities = quantities_made;
        equations = each_made;
      }

pub counts_are_made : InstancesMakeCounts
counts_are_made texts units keeps again fine = counts_made texts units (λ r. IsTrue (keeps r)) again fine
