-- An instance of a file without faults breaks no rule but such as the walk tests.
use Rattle.std.proofs.Common.{◌≡◌, ◌+◌, ℕ, zero, suc, arith, IsTrue, Bool, true, false, List, [], ◌∷◌, ◌++◌, length, replicate, All, Option, Some, None, refl, sym, subst}
use Rattle.std.specs.Prelude.{◌&&◌}
use Rattle.std.specs.List.{fold}
use Rattle.ams_tree.specs.declared.concurrent.Concurrent.{Concurrent}
use Rattle.ams_tree.specs.declared.concurrent.ConcurrentStatement.{ConcurrentStatement}
use Rattle.ams_tree.specs.declared.concurrent.ConcurrentStatement.TheVariants as conc
use Rattle.ams_tree.specs.declared.concurrent.Instance.{Instance as Written}
use Rattle.ams_tree.specs.declared.declaration.Port.{Port}
use Rattle.ams_tree.specs.declared.declaration.Port.TheVariants as port
use Rattle.ams_tree.specs.declared.design.Architecture.{Architecture}
use Rattle.ams_tree.specs.declared.design.DesignUnit.{DesignUnit}
use Rattle.ams_tree.specs.declared.design.Entity.{Entity}
use Rattle.ams_tree.specs.declared.expression.Name.{Name}
use Rattle.name_scope.specs.declared.scope.Scope.{Scope}
use Rattle.name_scope.specs.declared.thing.Thing.TheVariants as thing
use Rattle.elab_meaning.specs.declared.book.Book.{Book}
use Rattle.elab_meaning.specs.declared.fault.Notes.{Notes}
use Rattle.unit_meaning.specs.declared.request.Actual.{Actual}
use Rattle.unit_meaning.specs.declared.request.Actual.TheVariants as actual
use Rattle.unit_meaning.specs.declared.request.Assigned.{Assigned}
use Rattle.unit_meaning.specs.declared.request.Request.{Request}
use Rattle.unit_meaning.specs.declared.site.Site.{Site}
use Rattle.unit_meaning.specs.Settings.{Setting}
use Rattle.unit_meaning.specs.Interfaces.{interface}
use Rattle.unit_meaning.specs.Associations.{entity_in, instance_maps}
use Rattle.unit_meaning.specs.Units.{start_of, opened, setting_of, statement_notes, judged_statement, judged_body, file_faults, type_fault, nature_fault}
use Rattle.unit_meaning.specs.Walk.{Around, Entry, matched, actual_at, port_numbers, numbering, request_of, top_request}
use Rattle.walk_laws.specs.Steps.{body_notes, around_body, IsEntered}
use Rattle.alike_laws.specs.Alike.{HasNoFaults, OnlyTold, ReadingsFollow}
use Rattle.alike_books.specs.Books.{AlikeBooks, AlikeBehind, PartsFollow, DeclarationsFollow}
use Rattle.alike_interfaces.specs.Interfaces.{IsElectrical, IsElectricalActual, NamesAreElectrical, PortsAreElectrical, RequestIsElectrical, InterfacesFollow}
use Rattle.alike_parts.specs.Follows.{BothRead}
use Rattle.alike_maps.specs.Maps.{is_electrical, some_electrical, names_fit, ports_fit, given_fits, entity_fits, actuals_fit}
use Rattle.alike_maps.proofs.Maps.{equal}
use Rattle.alike_maps.proofs.Electrical.{actuals_are}
use Rattle.alike_units.specs.Units.{ArchitectureIsClean, UnitsAreClean}
use Rattle.alike_units.proofs.Statements.{each_list_follows}
use Rattle.alike_units.proofs.Faults.{none_is, told_is}
use Rattle.alike_units.proofs.Units.{body_before, units_clean}
use Rattle.alike_units.proofs.Whole.{start_outside}
use Rattle.instance_laws.specs.Instances.{InnerFits, InstancesBreakNothing}

-- ---- actuals that fit

front : (a b : Bool) → (a && b) ≡ true → a ≡ true
front true b h = refl
front false b h = absurd (cc)

rest : (a b : Bool) → (a && b) ≡ true → b ≡ true
rest true b h = h
rest false b h = absurd (cc)

electrical : (a : Actual) → is_electrical a ≡ true → IsElectrical a
electrical (actual.Object x (thing.Terminal end m)) h = equal m 0 h
electrical (actual.Object x _) h = tt
electrical actual.Open h = tt
electrical (actual.Value k v) h = tt

electrical_actual : (o : Option Assigned) → some_electrical o ≡ true → IsElectricalActual o
electrical_actual (Some a) h = electrical a.actual h
electrical_actual None h = tt

electrical_names : (given : List (ℕ × Assigned)) (i : ℕ) (names : List Name) → names_fit given i names ≡ true → NamesAreElectrical given i names
electrical_names given i [] h = tt
electrical_names given i (x ∷ more) h = (
  electrical_actual (actual_at given i) (front (some_electrical (actual_at given i)) (names_fit given (i + 1) more) h),
  electrical_names given (i + 1) more (rest (some_electrical (actual_at given i)) (names_fit given (i + 1) more) h),
)

electrical_ports : (given : List (ℕ × Assigned)) (i : ℕ) (ports : List Port) → ports_fit given i ports ≡ true → PortsAreElectrical given i ports
electrical_ports given i [] h = tt
electrical_ports given i (port.Terminal place names m ∷ more) h = (
  electrical_names given i names (front (names_fit given i names) (ports_fit given (i + length names) more) h),
  electrical_ports given (i + length names) more (rest (names_fit given i names) (ports_fit given (i + length names) more) h),
)
electrical_ports given i (port.Signal place names mode t x ∷ more) h = (tt, electrical_ports given (i + length names) more h)
electrical_ports given i (port.Quantity place names mode t ∷ more) h = (tt, electrical_ports given (i + length names) more h)

request_electrical : (units : List DesignUnit) (r : Request) (e : Entity) → IsTrue (actuals_fit units r) → entity_in units r.entity ≡ Some e → RequestIsElectrical e r
request_electrical units r e fits is given also =
    let here : given_fits (matched (port_numbers e.ports) r.ports) e.ports ≡ true = subst (λ (o : Option Entity). entity_fits o r ≡ true) is fits in
    electrical_ports given 0 e.ports (subst (λ (o : Option (List (ℕ × Assigned))). given_fits o e.ports ≡ true) also here)

-- ---- lists

all_none : {A : Type 0} (P : A → Type 0) → All P []
all_none P k d less = absurd (omega arith)

all_more : {A : Type 0} (P : A → Type 0) (x : A) (xs : List A) → P x → All P xs → All P (x ∷ xs)
all_more P x xs h k zero d less = h
all_more P x xs h k (suc i) d less = k i d (omega arith)

module _ (readings : ReadingsFollow) (parts : PartsFollow) (declarations : DeclarationsFollow) (interfaces : InterfacesFollow) (texts : List (List ℕ)) (units : List DesignUnit) (clean : UnitsAreClean texts units) where
  -- ---- what an instance breaks

  fine : (r : Request) (s : Site) (e : Entity) (a : Architecture) (entry : Entry) → IsTrue (actuals_fit units r) → IsEntered texts units r s e a entry → HasNoFaults (body_notes texts units a entry s)
  fine r s e a entry fits h =
      let check : ArchitectureIsClean texts units e a = clean.architectures r.entity r.architecture e a h.entity_is h.architecture_is in
      let c : Book = interface texts e check.book in
      let d : Book = opened texts a c in
      let j : Book = opened texts a entry.book in
      let whole : HasNoFaults (judged_body texts units a d) = check.clean in
      let declared : HasNoFaults d.notes = body_before readings parts declarations texts units (start_outside texts) a d whole in
      let begun : HasNoFaults c.notes = (declarations.body texts a c c).before declared in
      let natures : List ℕ = replicate check.book.natures 0 in
      let books : AlikeBooks natures c entry.book = interfaces.entry texts r e s entry check.book h.entry_is (request_electrical units r e fits h.entity_is) check.scope check.some begun in
      let behind : AlikeBehind natures d j = (declarations.body texts a c entry.book).alike natures declared books in
      let all : List ℕ = natures ++ behind.more in
      let v : Setting = setting_of texts d a in
      let w : Setting = setting_of texts j a in
      let premise : BothRead (Unit {0}) all v w d.scope j.scope = record { reads = readings.expressions; statics = readings.statics; texts = refl; alike = λ there. behind.books.scopes } in
      let told : OnlyTold (body_notes texts units a entry s) =
      (each_list_follows (Unit {0}) all v w d.scope j.scope premise parts (start_of texts) (start_outside texts) units a.statements d.notes
      (record { faults = j.notes.faults; dots = s.dots; thresholds = s.thresholds })).told tt whole behind.books.told in
      told_is (body_notes texts units a entry s).faults told h.unbroken

  -- ---- instances in it

  module _ (w : Setting) (here : w.texts ≡ texts) (scope : Scope) (path : List ℕ) (number : ℕ) where
    abbrev around : Around
    around = record { setting = w; scope = scope; path = path; number = number }

    abbrev premise : BothRead ⊥ [] w w scope scope
    premise = record { reads = readings.expressions; statics = readings.statics; texts = refl; alike = λ never. absurd never }

    abbrev Fits : Concurrent → Type 0
    Fits c = InnerFits units around c.statement

    request_fits : (i : Written) (n : Notes) (x : Name) (s : Site) (o : Option Entity) → entity_in units i.entity.number ≡ o → HasNoFaults (instance_maps texts (start_of texts) units scope i n).0
        → entity_fits o (request_of w units scope path number x i s) ≡ true
    request_fits i n x s None is quiet = refl
    request_fits i n x s (Some e) is quiet =
        subst (λ (l : List (List ℕ)). given_fits (matched (port_numbers e.ports) (instance_maps l (start_of l) units scope i (numbering s)).1.1) e.ports ≡ true) (sym here)
        (actuals_are readings texts (start_of texts) scope (start_outside texts) units i e n (numbering s) is (clean.natures i.entity.number e is) quiet)

    one_fits : (label : Option Name) (x : ConcurrentStatement) (n : Notes) → HasNoFaults (statement_notes w (start_of texts) units scope label x n) → InnerFits units around x
    one_fits label (conc.Instance i) n quiet =
        λ x s.
        request_fits i n x s (entity_in units i.entity.number) refl
        (subst (λ (l : List (List ℕ)). HasNoFaults (instance_maps l (start_of texts) units scope i n).0) here quiet)
    one_fits label _ n quiet = tt

    all_fit : (all : List Concurrent) (n : Notes) → HasNoFaults (fold (judged_statement w (start_of texts) units scope) n all) → All Fits all
    all_fit [] n quiet = all_none Fits
    all_fit (c ∷ more) n quiet =
        let next : Notes = judged_statement w (start_of texts) units scope n c in
        all_more Fits c more
        (one_fits c.label c.statement n ((each_list_follows ⊥ [] w w scope scope premise parts (start_of texts) (start_outside texts) units more next next).back quiet))
        (all_fit more next quiet)

  inner : (r : Request) (s : Site) (e : Entity) (a : Architecture) (entry : Entry) → IsTrue (actuals_fit units r) → IsEntered texts units r s e a entry
      → All (λ (c : Concurrent). InnerFits units (around_body texts r a entry s) c.statement) a.statements
  inner r s e a entry fits h =
      let j : Book = opened texts a entry.book in
      all_fit (setting_of texts j a) refl j.scope r.path (length s.objects.instances) a.statements (record { faults = j.notes.faults; dots = s.dots; thresholds = s.thresholds })
      (fine r s e a entry fits h)

-- ---- the top

no_actuals : (i : ℕ) → some_electrical (actual_at [] i) ≡ true
no_actuals i = refl

no_names : (i : ℕ) (names : List Name) → names_fit [] i names ≡ true
no_names i [] = refl
no_names i (x ∷ more) = no_names (i + 1) more

both_true : (a b : Bool) → a ≡ true → b ≡ true → (a && b) ≡ true
both_true true b h k = k
both_true false b h k = absurd (cc)

no_ports : (i : ℕ) (ports : List Port) → ports_fit [] i ports ≡ true
no_ports i [] = refl
no_ports i (port.Terminal place names m ∷ more) = both_true (names_fit [] i names) (ports_fit [] (i + length names) more) (no_names i names) (no_ports (i + length names) more)
no_ports i (port.Signal place names mode t x ∷ more) = no_ports (i + length names) more
no_ports i (port.Quantity place names mode t ∷ more) = no_ports (i + length names) more

top_fits : (units : List DesignUnit) (path : List ℕ) (x : ℕ) → IsTrue (actuals_fit units (top_request path x))
top_fits units path x = go (entity_in units x)
  where
    go : (o : Option Entity) → entity_fits o (top_request path x) ≡ true
    go (Some e) = no_ports 0 e.ports
    go None = refl

pub each_instance_follows : ReadingsFollow → PartsFollow → DeclarationsFollow → InterfacesFollow → (texts : List (List ℕ)) (units : List DesignUnit)
    → type_fault texts units ≡ None → nature_fault texts units ≡ None → InstancesBreakNothing texts units
each_instance_follows readings parts declarations interfaces texts units h k =
    let clean : UnitsAreClean texts units = units_clean readings parts declarations texts units (start_outside texts) (none_is (file_faults texts units) h k) in
    record {
      top = λ path x. top_fits units path x;
      inner = λ r s e a entry fits there. inner readings parts declarations interfaces texts units clean r s e a entry fits there;
      fine = λ r s e a entry fits there. fine readings parts declarations interfaces texts units clean r s e a entry fits there;
    }
