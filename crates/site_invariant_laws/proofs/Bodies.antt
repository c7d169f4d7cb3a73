-- The body of an instance.
use Rattle.std.proofs.Common.{◌≡◌, ◌≤◌, ◌<◌, ◌+◌, ℕ, Bool, true, false, if◌then◌else◌, List, [], ◌∷◌, ◌++◌, length, Option, Some, None, IfSome, refl, sym, ap, ◌∙◌, subst, arith}
use Rattle.std.specs.Prelude.{◌≢◌}
use Rattle.std.specs.List.{All, AllPairs, Contains, slice_get}
use Rattle.std.proofs.lemmas.List.Elements.{All-head, All-tail, All-weaker}
use Rattle.ams_tree.specs.declared.concurrent.Concurrent.{Concurrent}
use Rattle.ams_tree.specs.declared.declaration.Declaration.{Declaration}
use Rattle.ams_tree.specs.declared.declaration.Declaration.TheVariants as declare
use Rattle.ams_tree.specs.declared.design.Architecture.{Architecture}
use Rattle.ams_tree.specs.declared.design.DesignUnit.{DesignUnit}
use Rattle.ams_tree.specs.declared.design.DesignUnit.TheVariants as unit
use Rattle.ams_tree.specs.declared.design.Entity.{Entity}
use Rattle.ams_value.specs.declared.value_type.ValueType.TheVariants.{Enumeration as EnumerationType}
use Rattle.flat_design.specs.Limits.{unknown_limit, threshold_limit}
use Rattle.flat_design.specs.Lists.{same_threshold}
use Rattle.flat_design.specs.declared.objects.Enumeration.{Enumeration}
use Rattle.flat_design.specs.declared.objects.Equation.{Equation}
use Rattle.flat_design.specs.declared.objects.Process.{Process}
use Rattle.flat_design.specs.declared.objects.Objects.{Objects}
use Rattle.flat_design.specs.declared.objects.Threshold.{Threshold}
use Rattle.name_scope.specs.declared.scope.Scope.{Scope}
use Rattle.name_scope.specs.declared.thing.Kind.TheVariants.{Of}
use Rattle.elab_meaning.specs.declared.book.Book.{Book}
use Rattle.elab_meaning.specs.declared.fault.Fault.{Fault}
use Rattle.elab_meaning.specs.declared.fault.Notes.{Notes}
use Rattle.unit_meaning.specs.declared.request.Request.{Request}
use Rattle.unit_meaning.specs.declared.site.Site.{Site}
use Rattle.unit_meaning.specs.Settings.{Setting}
use Rattle.unit_meaning.specs.Associations.{is_asked, or_this, architecture_in}
use Rattle.unit_meaning.specs.Units.{start_of, opened, setting_of, judged_statement}
use Rattle.unit_meaning.specs.Walk.{Entry, Around, entry_of_instance, numbering}
use Rattle.design_rules.specs.Types.{sizes_of, equation_scope}
use Rattle.design_rules.specs.Equations.{IsEquation}
use Rattle.design_rules.specs.Design.{domain_type, IsProcess, IsThreshold}
use Rattle.reading_laws.specs.Growing.{Extends, Grows}
use Rattle.note_laws.specs.Noting.{AreNoted, NamesAreNotable}
use Rattle.architecture_note_laws.proofs.Walked.{architectures_note_alike}
use Rattle.scope_laws.specs.Holds.{HasNoFaults, ScopeHolds, StandsBefore}
use Rattle.scope_laws.proofs.Scopes.{scopes_hold}
use Rattle.declaration_laws.specs.Books.{ObjectsHold, BookHolds, KeepsBook, HasLiterals}
use Rattle.declaration_laws.proofs.Whole.{declarations_hold}
use Rattle.interface_laws.specs.Requests.{RequestHolds, start_book}
use Rattle.interface_laws.proofs.Whole.{interfaces_hold}
use Rattle.written_laws.specs.Written.{IsWritten, UnitIsWritten, HasLiterals as WrittenLiterals}
use Rattle.choice_laws.specs.Choices.{CountsLiterals}
use Rattle.made_laws.specs.Made.{ArchitectureStands}
use Rattle.allowed_laws.specs.Simple.{SelectorsFit}
use Rattle.object_laws.specs.Adding.{AddsObjects}
use Rattle.object_laws.proofs.Adding.{extends_same, extends_on, adds_on}
use Rattle.object_laws.proofs.Interface.{entering_adds_objects}
use Rattle.walk_laws.specs.Steps.{body_notes, begun, around_body, IsEntered}
use Rattle.site_laws.specs.Sites.{IsFront}
use Rattle.site_laws.proofs.Fronts.{front_on, added_front}
use Rattle.checked_laws.specs.Checked.{HasDrivers}
use Rattle.site_invariant_laws.specs.Sites.{HasDomain, NotedHolds, SiteHolds, IsMadeIn}
use Rattle.site_invariant_laws.specs.Premises.{NamesCount, ProcessesStand, Premises}
use Rattle.site_invariant_laws.proofs.Lists.{none_first, all_among_more}
use Rattle.site_invariant_laws.proofs.Grown.{Grown, grown_on, NotedFront, noted_before, stands_of, all_later}
use Rattle.site_invariant_laws.proofs.Scopes.{names_notable, domain_counts, cases_stand}
use Rattle.site_invariant_laws.proofs.Statements.{faults_before, Starts, Reads, Stands, EnterHolds, Enters, RunHolds, Runs}

-- ---- the architecture of an instance is written

abbrev ArchitectureIsWritten : Architecture → Type 0
ArchitectureIsWritten a = UnitIsWritten (unit.Architecture a)

if_written : (b : Bool) (a : Architecture) → ArchitectureIsWritten a → IfSome (if b then Some a else None) ArchitectureIsWritten
if_written true a h = h
if_written false a h = tt

this_written : (later : Option Architecture) (a : Architecture) (x : ℕ) (y : Option ℕ) → IfSome later ArchitectureIsWritten → ArchitectureIsWritten a
    → IfSome (or_this later a x y) ArchitectureIsWritten
this_written (Some later) a x y h k = h
this_written None a x y h k = if_written (is_asked a x y) a k

found_written : (units : List DesignUnit) (x : ℕ) (y : Option ℕ) → All UnitIsWritten units → IfSome (architecture_in units x y) ArchitectureIsWritten
found_written [] x y h = tt
found_written (unit.Architecture a ∷ more) x y h =
    this_written (architecture_in more x y) a x y (found_written more x y (All-tail UnitIsWritten (unit.Architecture a) more h)) (All-head UnitIsWritten (unit.Architecture a) more h)
found_written (unit.Entity e ∷ more) x y h = found_written more x y (All-tail UnitIsWritten (unit.Entity e) more h)
found_written (unit.Library l ∷ more) x y h = found_written more x y (All-tail UnitIsWritten (unit.Library l) more h)
found_written (unit.Use u ∷ more) x y h = found_written more x y (All-tail UnitIsWritten (unit.Use u) more h)

has_literals : (d : Declaration) → WrittenLiterals d → HasLiterals d
has_literals (declare.Enumeration place name literals) h = h
has_literals d h = tt

-- ---- entering

module _ (texts : List (List ℕ)) (units : List DesignUnit) (final : Objects) (Q : Request → Type 0) (premises : Premises texts units final Q) where
  module _ (r : Request) (s t : Site) (e : Entity) (a : Architecture) (entry : Entry) (h : IsEntered texts units r s e a entry) where
    abbrev book : Book
    book = opened texts a entry.book

    abbrev start : Site
    start = begun texts units r e a entry s

    abbrev at : Around
    at = around_body texts r a entry s

    abbrev before : Notes
    before = record { faults = book.notes.faults; dots = s.dots; thresholds = s.thresholds }

    added : AddsObjects s.objects book.objects
    added =
        adds_on s.objects entry.book.objects book.objects
        (subst (λ (o : Option Entry). IfSome o (λ (x : Entry). AddsObjects s.objects x.book.objects)) h.entry_is (entering_adds_objects.interface texts r e s))
        (entering_adds_objects.declarations texts a entry.book)

    -- an instance is added beside them
    with_front : (o : Objects) → IsFront o book.objects → IsFront o start.objects
    with_front o k =
        record {
          enumerations = k.enumerations;
          signals = k.signals;
          quantities = k.quantities;
          nodes = k.nodes;
          equations = k.equations;
          processes = k.processes;
          ramps = k.ramps;
        }

    begun_front : IsFront s.objects start.objects
    begun_front = with_front s.objects (added_front s.objects book.objects added)

    written : ArchitectureIsWritten a
    written = subst (λ (o : Option Architecture). IfSome o ArchitectureIsWritten) h.architecture_is (found_written units r.entity r.architecture premises.written)

    module _ (st : Starts final units Q s) (holding : RequestHolds final r) (keeps : Q r) (f : IsFront start.objects final) where
      none : HasNoFaults (body_notes texts units a entry s)
      none = premises.instances.fine r s e a entry keeps h

      none_before : HasNoFaults before
      none_before = faults_before at.setting (start_of texts) units at.scope a.statements before none

      stands : StandsBefore book.objects final
      stands = record { enumerations = f.enumerations; signals = f.signals; quantities = f.quantities; nodes = f.nodes }

      domain : HasDomain final
      domain = extends_on Enumeration (domain_type ∷ []) s.objects.enumerations final.enumerations st.domain (extends_on Enumeration s.objects.enumerations book.objects.enumerations final.enumerations added.enumerations f.enumerations)

      entry_keeps : KeepsBook final (start_book texts r s) entry.book
      entry_keeps =
          subst (λ (o : Option Entry). IfSome o (λ (x : Entry). KeepsBook final (start_book texts r s) x.book)) h.entry_is (interfaces_hold.entry final texts r e s holding)

      body_keeps : KeepsBook final entry.book book
      body_keeps = declarations_hold.body final texts a entry.book (All-weaker WrittenLiterals HasLiterals has_literals a.declarations written.0)

      book_holds : BookHolds final book
      book_holds =
          let none_entry : HasNoFaults entry.book.notes = none_first Fault entry.book.notes.faults body_keeps.grows.faults.more (sym body_keeps.grows.faults.whole ∙ none_before) in
          body_keeps.right none_before stands
          (entry_keeps.right none_entry (scopes_hold.on entry.book.objects book.objects final body_keeps.stands stands)
          (interfaces_hold.start final texts r s (ap (λ (l : List Enumeration). slice_get l 0) domain.whole) st.objects))

      -- ---- what is counted

      notable : NamesAreNotable final at.scope
      notable = names_notable final at.scope book_holds.scope

      counts : Grows before (body_notes texts units a entry s)
      counts = (architectures_note_alike final at.setting (start_of texts) units at.scope a.statements before before notable).grows

      grown : Grown s start
      grown =
          record {
            dots = subst (Extends ℕ s.objects.dots) (sym added.dots) (extends_same ℕ s.objects.dots);
            thresholds = subst (Extends Threshold s.objects.thresholds) (sym added.thresholds) (extends_same Threshold s.objects.thresholds);
            counted_dots = counts.dots;
            counted_thresholds = counts.thresholds;
          }

      few_dots : length start.dots ≤ unknown_limit
      few_dots = let sum = h.limits.unknowns in less (length start.objects.quantities + length start.objects.nodes) (length start.dots) unknown_limit sum
        where
          less : (k n m : ℕ) → k + n ≤ m → n ≤ m
          less k n m g = omega arith

      begun_counted : NotedHolds final start
      begun_counted =
          let k = st.counted in
          record {
            noted =
                record {
                  dots = subst (All (λ q. q < length final.quantities)) (sym added.dots) k.noted.dots;
                  dots_once = subst (AllPairs (λ a b. a ≢ b)) (sym added.dots) k.noted.dots_once;
                  thresholds = subst (All (IsThreshold final)) (sym added.thresholds) k.noted.thresholds;
                  thresholds_once = subst (AllPairs (λ a b. same_threshold a b ≡ false)) (sym added.thresholds) k.noted.thresholds_once;
                };
            dots = subst (All (Contains start.dots)) (sym added.dots) (all_among_more ℕ s.dots start.dots counts.dots s.objects.dots k.dots);
            thresholds =
                subst (All (Contains start.thresholds)) (sym added.thresholds)
                (all_among_more Threshold s.thresholds start.thresholds counts.thresholds s.objects.thresholds k.thresholds);
            dot_limit = few_dots;
            threshold_limit_kept = h.limits.thresholds;
          }

      starts : Starts final units Q start
      starts =
          record {
            objects = record { signals = book_holds.objects.signals; quantities = book_holds.objects.quantities; enumerations = book_holds.objects.enumerations; enumeration_count = book_holds.objects.enumeration_count };
            domain = extends_on Enumeration (domain_type ∷ []) s.objects.enumerations book.objects.enumerations st.domain added.enumerations;
            counted = begun_counted;
          }

      reads : Reads final units Q at a.statements start
      reads =
          record {
            scope = book_holds.scope;
            requests = premises.instances.inner r s e a entry keeps h;
            written = written.1;
            before = before;
            fine = none;
            dots = extends_same ℕ start.dots;
            thresholds = extends_same Threshold start.thresholds;
            dot_limit = few_dots;
            threshold_limit_kept = h.limits.thresholds;
          }

      -- ---- what its processes ask

      counted_names : NamesCount final at.setting at.scope
      counted_names = premises.counts r s e a entry h st.domain none_before stands

      counted_domain : CountsLiterals at.setting.enumerations (sizes_of final) (Of (EnumerationType 0))
      counted_domain = domain_counts final book.objects.enumerations starts.domain domain

      at_stands : All (IsMadeIn final at.setting at.scope) a.statements → Stands final units Q at
      at_stands made =
          let rule : ProcessesStand final at.setting at.scope = premises.processes r s e a entry h st.domain none_before stands counted_domain book_holds.scope in
          record {
            Also = rule.Also;
            architecture =
                record {
                  holds = book_holds.scope;
                  selectors = premises.selectors r s e a entry h none book_holds.scope made;
                  also = rule.names;
                  texts = premises.texts_fit;
                  cases = rule.cases;
                  values = rule.values;
                  parameters = rule.parameters;
                  faulty = rule.faulty;
                };
            cases = cases_stand final at.setting at.scope counted_domain book_holds.scope counted_names;
          }

      -- ---- the site

      begun_holds : SiteHolds final s → SiteHolds final start
      begun_holds k =
          record {
            objects = starts.objects;
            equations = subst (All (IsEquation final)) (sym added.equations) k.equations;
            processes = subst (All (IsProcess final)) (sym added.processes) k.processes;
            drivers = subst (All (HasDrivers final)) (sym added.processes) k.drivers;
            counted = starts.counted;
          }

    pub behind_body : Runs final units Q at a.statements start t → Enters final units Q r s t
    behind_body q =
        record {
          front = front_on s.objects start.objects t.objects begun_front q.front;
          holds = λ st holding keeps f.
              let g : IsFront start.objects final = front_on start.objects t.objects final q.front f in
              let run : RunHolds final units Q at a.statements start t = q.holds (starts st holding keeps g) (reads st holding keeps g) f in
              record {
                starts = run.starts;
                grown = grown_on s start t (grown st holding keeps g) run.grown;
                site = λ d k.
                    run.site d (at_stands st holding keeps g (all_later at.setting at.scope t.objects final f d a.statements run.made)) (begun_holds st holding keeps g k);
              };
        }
