-- The walk only adds objects, and counts processes before it makes them.
use Rattle.std.proofs.Common.{◌≡◌, ◌≤◌, ◌<◌, ℕ, zero, suc, ◌+◌, ◌-◌, Bool, true, false, if◌then◌else◌, List, [], ◌∷◌, ◌++◌, length, Option, Some, None, IfSome, Result, Ok, Err, refl, sym, ap, ◌∙◌, subst, arith, length-append}
use Rattle.std.specs.List.{slice_get}
use Rattle.ams_tree.specs.declared.expression.Name.{Name}
use Rattle.ams_tree.specs.declared.concurrent.Concurrent.{Concurrent}
use Rattle.ams_tree.specs.declared.concurrent.ConcurrentStatement.{ConcurrentStatement}
use Rattle.ams_tree.specs.declared.concurrent.ConcurrentStatement.TheVariants as conc
use Rattle.ams_tree.specs.declared.concurrent.Instance.{Instance as Written}
use Rattle.ams_tree.specs.declared.design.Architecture.{Architecture}
use Rattle.ams_tree.specs.declared.design.DesignUnit.{DesignUnit}
use Rattle.ams_tree.specs.declared.design.Entity.{Entity}
use Rattle.flat_design.specs.Limits.{process_limit, instance_limit}
use Rattle.flat_design.specs.declared.objects.Enumeration.{Enumeration}
use Rattle.flat_design.specs.declared.objects.Instance.{Instance}
use Rattle.flat_design.specs.declared.objects.Objects.{Objects}
use Rattle.unit_meaning.specs.declared.request.Request.{Request}
use Rattle.unit_meaning.specs.declared.site.Site.{Site}
use Rattle.unit_meaning.specs.Concurrent.{concurrent}
use Rattle.unit_meaning.specs.Units.{opened}
use Rattle.unit_meaning.specs.Walk.{Entry, Around, entry_of_instance, instance_of, lessened, out_count, with_instance, is_process, process_count, request_of, numbering, with_statement, first_site, top_request, enter, walked}
use Rattle.design_rules.specs.Design.{domain_type}
use Rattle.reading_laws.specs.Growing.{Extends}
use Rattle.walk_laws.specs.Steps.{begun, around_body, IsWithin, IsEntered, IsNoInstance}
use Rattle.walk_laws.proofs.Induction.{WalkRules, walk_keeps, no_answer}
use Rattle.walk_laws.proofs.Limits.{walk_keeps_limits}
use Rattle.object_laws.specs.Adding.{AddsObjects}
use Rattle.object_laws.proofs.Adding.{adds_on}
use Rattle.object_laws.proofs.Interface.{entering_adds_objects}
use Rattle.site_laws.specs.Sites.{IsFront, WalkedSite, WalkedSitesHold}
use Rattle.site_laws.proofs.Fronts.{same_front, front_on, added_front}
use Rattle.site_laws.proofs.Statements.{made_front, same_instances, one_if, few_more}

record Enters (r : Request) (s t : Site) : Type 0 where
  front : IsFront s.objects t.objects
  processes : length t.objects.processes + s.processes ≤ length s.objects.processes + t.processes
  instances : length t.objects.instances ≤ instance_limit

record Runs (at : Around) (all : List Concurrent) (s t : Site) : Type 0 where
  front : IsFront s.objects t.objects
  processes : length t.objects.processes + s.processes ≤ length s.objects.processes + t.processes + process_count all
  instances : length s.objects.instances ≤ instance_limit → length t.objects.instances ≤ instance_limit

-- ---- statements

one_of : (b : Bool) (n : ℕ) → (if b then 1 + n else n) ≡ one_if b + n
one_of true n = refl
one_of false n = let same : n ≡ 0 + n = omega arith in same

counted_as : (c : Concurrent) (more : List Concurrent) → process_count (c ∷ more) ≡ one_if (is_process c.statement) + process_count more
counted_as c more = one_of (is_process c.statement) (process_count more)

nothing_more : (at : Around) (s : Site) → Runs at [] s s
nothing_more at s = record { front = same_front s.objects; processes = omega arith; instances = λ h. h }

behind_instance : (at : Around) (c : Concurrent) (more : List Concurrent) (r : Request) (s u t : Site) → Enters r s u → Runs at more u t → Runs at (c ∷ more) s t
behind_instance at c more r s u t p q =
    record {
      front = front_on s.objects u.objects t.objects p.front q.front;
      processes = omega (arith, p.processes, q.processes, counted_as c more);
      instances = λ h. q.instances p.instances;
    }

behind_none : (at : Around) (c : Concurrent) (more : List Concurrent) (s t : Site) → Runs at more s t → Runs at (c ∷ more) s t
behind_none at c more s t q = record { front = q.front; processes = omega (arith, q.processes, counted_as c more); instances = q.instances }

behind_statement : (at : Around) (c : Concurrent) (more : List Concurrent) (s t : Site) → IsNoInstance c.statement
    → Runs at more (with_statement (concurrent at.setting at.scope c.label c.statement (numbering s)) s) t → Runs at (c ∷ more) s t
behind_statement at c more s t plain q =
    let found = concurrent at.setting at.scope c.label c.statement (numbering s) in
    let u = with_statement found s in
    let few : length u.objects.processes ≤ length s.objects.processes + one_if (is_process c.statement) = few_more at.setting at.scope c.label c.statement (numbering s) s plain in
    let same : u.processes ≡ s.processes = refl in
    record {
      front = front_on s.objects u.objects t.objects (made_front found.0 found.1 s) q.front;
      processes = omega (arith, q.processes, few, same, counted_as c more);
      instances = λ h. q.instances (subst (λ (l : List Instance). length l ≤ instance_limit) (sym (same_instances found.0 found.1 s)) h);
    }

-- ---- bodies

still_long : (i k : ℕ) (xs : List Instance) → length (lessened i k xs) ≡ length xs
still_long i k [] = refl
still_long zero k (x ∷ more) = refl
still_long (suc i) k (x ∷ more) = ap suc (still_long i k more)

module _ (texts : List (List ℕ)) (units : List DesignUnit) (r : Request) (s t : Site) (e : Entity) (a : Architecture) (entry : Entry) (h : IsEntered texts units r s e a entry) where
  added : AddsObjects s.objects (opened texts a entry.book).objects
  added =
      adds_on s.objects entry.book.objects (opened texts a entry.book).objects
      (subst (λ (o : Option Entry). IfSome o (λ (x : Entry). AddsObjects s.objects x.book.objects)) h.entry_is (entering_adds_objects.interface texts r e s))
      (entering_adds_objects.declarations texts a entry.book)

  with_front : (o : Objects) → IsFront s.objects o → IsFront s.objects (with_instance r e a o)
  with_front o k =
      record {
        enumerations = k.enumerations;
        signals = k.signals;
        quantities = k.quantities;
        nodes = k.nodes;
        equations = k.equations;
        processes = k.processes;
        ramps = k.ramps;
      }

  begun_front : IsFront s.objects (begun texts units r e a entry s).objects
  begun_front = with_front (opened texts a entry.book).objects (added_front s.objects (opened texts a entry.book).objects added)

  one_instance : length (begun texts units r e a entry s).objects.instances ≡ length s.objects.instances + 1
  one_instance =
      let old = (opened texts a entry.book).objects.instances in
      length-append (lessened r.outer (out_count e.ports) old) (instance_of r e a ∷ [])
      ∙ (ap (λ n. n + 1) (still_long r.outer (out_count e.ports) old) ∙ ap (λ (l : List Instance). length l + 1) added.instances)

  behind_body : Runs (around_body texts r a entry s) a.statements (begun texts units r e a entry s) t → Enters r s t
  behind_body q =
      let start = begun texts units r e a entry s in
      let few : length start.objects.processes ≡ length s.objects.processes = ap length added.processes in
      let more : start.processes ≡ s.processes + process_count a.statements = refl in
      record {
        front = front_on s.objects start.objects t.objects begun_front q.front;
        processes = omega (arith, q.processes, few, more);
        instances = q.instances (omega (arith, h.room, one_instance));
      }

rules : (texts : List (List ℕ)) (units : List DesignUnit) → WalkRules texts units Enters Runs
rules texts units =
    record {
      nothing = nothing_more;
      instance = λ at c more x i s u t l k p q. behind_instance at c more (request_of at.setting units at.scope at.path at.number x i s) s u t p q;
      unlabelled = λ at c more i s t l k q. behind_none at c more s t q;
      statement = behind_statement;
      body = λ r s t e a entry h q. behind_body texts units r s t e a entry h q;
    }

-- ---- the whole

first_is : (xs : List Enumeration) → Extends Enumeration (domain_type ∷ []) xs → slice_get xs 0 ≡ Some domain_type
first_is xs h = ap (λ (l : List Enumeration). slice_get l 0) h.whole

whole_site : (texts : List (List ℕ)) (units : List DesignUnit) (top : List ℕ) (x : Option ℕ) (s : Site) → walked texts units top x ≡ Ok s → WalkedSite s
whole_site texts units top None s h = no_answer _ s h
whole_site texts units top (Some x) s h =
    let k = walk_keeps texts units Enters Runs (rules texts units) instance_limit [] (top_request top x) first_site s h in
    let within = walk_keeps_limits texts units top (Some x) s h in
    record {
      within = within;
      processes = let few : length s.objects.processes + 0 ≤ 0 + s.processes = k.processes in omega (arith, few, within.processes);
      instances = k.instances;
      domain = first_is s.objects.enumerations k.front.enumerations;
      ramps = k.front.ramps;
    }

pub walked_sites_hold : WalkedSitesHold
walked_sites_hold = record {
  front = λ texts units depth above r s t h. (walk_keeps texts units Enters Runs (rules texts units) depth above r s t h).front;
  whole = λ texts units top x s h. whole_site texts units top x s h;
}
