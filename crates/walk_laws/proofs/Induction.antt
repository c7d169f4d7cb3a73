-- What each step of the walk keeps, the walk keeps.
use Rattle.std.proofs.Common.{◌≡◌, ◌≤◌, ◌<◌, ℕ, zero, suc, ◌+◌, nat_eq, nat_lt, Bool, true, false, if◌then◌else◌, List, [], ◌∷◌, ◌++◌, length, Option, Some, None, Result, Ok, Err, refl, sym, ap, ◌∙◌, subst, arith}
use Rattle.std.specs.List.{list_any}
use Rattle.std.proofs.lemmas.Bool.Decides.{nat_tests}
use Rattle.fix_core.specs.Passes.{◌>>=◌}
use Rattle.ams_tree.specs.declared.expression.Name.{Name}
use Rattle.ams_tree.specs.declared.concurrent.Concurrent.{Concurrent}
use Rattle.ams_tree.specs.declared.concurrent.ConcurrentStatement.{ConcurrentStatement}
use Rattle.ams_tree.specs.declared.concurrent.ConcurrentStatement.TheVariants as conc
use Rattle.ams_tree.specs.declared.concurrent.Instance.{Instance as Written}
use Rattle.ams_tree.specs.declared.design.Architecture.{Architecture}
use Rattle.ams_tree.specs.declared.design.DesignUnit.{DesignUnit}
use Rattle.ams_tree.specs.declared.design.Entity.{Entity}
use Rattle.flat_design.specs.Limits.{unknown_limit, signal_limit, process_limit, threshold_limit, instance_limit}
use Rattle.elab_meaning.specs.declared.fault.Fault.{Fault}
use Rattle.elab_meaning.specs.Notes.{first_fault, is_of_instances}
use Rattle.unit_meaning.specs.declared.request.Request.{Request}
use Rattle.unit_meaning.specs.declared.site.Limit.TheVariants as limit
use Rattle.unit_meaning.specs.declared.site.Refusal.{Refusal}
use Rattle.unit_meaning.specs.declared.site.Refusal.TheVariants.{Recursive, TooMany}
use Rattle.unit_meaning.specs.declared.site.Site.{Site}
use Rattle.unit_meaning.specs.Associations.{entity_in, architecture_in}
use Rattle.unit_meaning.specs.Concurrent.{concurrent}
use Rattle.unit_meaning.specs.Walk.{Entering, Around, Entry, entry_of_instance, request_of, numbering, with_statement, statement_walked, statements_walked, within_limits, unbroken, body_entered, interface_entered, unit_entered, entered, enter}
use Rattle.walk_laws.specs.Steps.{body_notes, begun, around_body, IsWithin, IsEntered, IsNoInstance}

-- ---- the tests

not_less : (m n : ℕ) → nat_lt m n ≡ false → n ≤ m
not_less m n h = grind (arith, nat_tests)

is_less : (m n : ℕ) → nat_lt m n ≡ true → m < n
is_less m n h = grind (arith, nat_tests)

pub no_answer : {A : Type 0} (x : Refusal) (t : Site) → Err x ≡ Ok t → A
no_answer x t h = cc

abbrev answer : Site → Result Site Refusal
answer s = Ok s

same_answer : (s t : Site) → answer s ≡ Ok t → s ≡ t
same_answer s t h = cc

-- a test that passes
passed : (b : Bool) (x : Refusal) (m : Result Site Refusal) (t : Site) → (if b then Err x else m) ≡ Ok t → (b ≡ false) × (m ≡ Ok t)
passed true x m t h = no_answer x t h
passed false x m t h = (refl, h)

module _ (f : Site → Result Site Refusal) where
  then_is : (m : Result Site Refusal) (t : Site) → (m >>= f) ≡ Ok t → (u : Site) × (m ≡ Ok u) × (f u ≡ Ok t)
  then_is (Ok u) t h = (u, refl, h)
  then_is (Err x) t h = no_answer x t h

within_is : (s t : Site) → within_limits s ≡ Ok t → IsWithin s × (s ≡ t)
within_is s t h =
    let a = passed (nat_lt unknown_limit (length s.objects.quantities + length s.objects.nodes + length s.dots)) (TooMany limit.Unknowns) _ t h in
    let b = passed (nat_lt signal_limit (length s.objects.signals)) (TooMany limit.Signals) _ t a.1 in
    let c = passed (nat_lt process_limit s.processes) (TooMany limit.Processes) _ t b.1 in
    let d = passed (nat_lt threshold_limit (length s.thresholds)) (TooMany limit.Thresholds) _ t c.1 in (
      record {
        unknowns = not_less unknown_limit (length s.objects.quantities + length s.objects.nodes + length s.dots) a.0;
        signals = not_less signal_limit (length s.objects.signals) b.0;
        processes = not_less process_limit s.processes c.0;
        thresholds = not_less threshold_limit (length s.thresholds) d.0;
      },
      same_answer s t d.1,
    )

unbroken_is : (o : Option Fault) (s t : Site) → unbroken o s ≡ Ok t → (o ≡ None) × (s ≡ t)
unbroken_is None s t h = (refl, same_answer s t h)
unbroken_is (Some f) s t h = no_answer _ t h

-- ---- the rules

pub record WalkRules (texts : List (List ℕ)) (units : List DesignUnit) (R : Request → Site → Site → Type 0) (S : Around → List Concurrent → Site → Site → Type 0) : Type 0 where
  pub nothing : (at : Around) (s : Site) → S at [] s s
  pub instance : (at : Around) (c : Concurrent) (more : List Concurrent) (x : Name) (i : Written) (s u t : Site) → c.label ≡ Some x → c.statement ≡ conc.Instance i
      → R (request_of at.setting units at.scope at.path at.number x i s) s u → S at more u t → S at (c ∷ more) s t
  pub unlabelled : (at : Around) (c : Concurrent) (more : List Concurrent) (i : Written) (s t : Site) → c.label ≡ None → c.statement ≡ conc.Instance i
      → S at more s t → S at (c ∷ more) s t
  pub statement : (at : Around) (c : Concurrent) (more : List Concurrent) (s t : Site) → IsNoInstance c.statement
      → S at more (with_statement (concurrent at.setting at.scope c.label c.statement (numbering s)) s) t → S at (c ∷ more) s t
  pub body : (r : Request) (s t : Site) (e : Entity) (a : Architecture) (entry : Entry) → IsEntered texts units r s e a entry
      → S (around_body texts r a entry s) a.statements (begun texts units r e a entry s) t → R r s t

module _ (texts : List (List ℕ)) (units : List DesignUnit) (R : Request → Site → Site → Type 0) (S : Around → List Concurrent → Site → Site → Type 0)
    (rules : WalkRules texts units R S) where
  module _ (inner : Entering) (deeper : (r : Request) (s t : Site) → inner r s ≡ Ok t → R r s t) where
    -- ---- statements

    module _ (at : Around) (c : Concurrent) (more : List Concurrent) (s t : Site) (rest : (u : Site) → statements_walked inner units at more u ≡ Ok t → S at more u t) where
      no_inner : (label : Option Name) (x : ConcurrentStatement) → IsNoInstance x
          → statement_walked inner units at label x s ≡ Ok (with_statement (concurrent at.setting at.scope label x (numbering s)) s)
      no_inner (Some y) (conc.Process p) plain = refl
      no_inner None (conc.Process p) plain = refl
      no_inner (Some y) (conc.Assign x d all last when) plain = refl
      no_inner None (conc.Assign x d all last when) plain = refl
      no_inner (Some y) (conc.Assert a) plain = refl
      no_inner None (conc.Assert a) plain = refl
      no_inner (Some y) (conc.Break p all names when) plain = refl
      no_inner None (conc.Break p all names when) plain = refl
      no_inner (Some y) (conc.Equation q) plain = refl
      no_inner None (conc.Equation q) plain = refl
      no_inner (Some y) (conc.If p all last) plain = refl
      no_inner None (conc.If p all last) plain = refl
      no_inner (Some y) (conc.Case p x all) plain = refl
      no_inner None (conc.Case p x all) plain = refl
      no_inner label (conc.Instance i) plain = absurd plain

      one_made : (label : Option Name) (x : ConcurrentStatement) → c.label ≡ label → c.statement ≡ x → IsNoInstance x
          → (statement_walked inner units at label x s >>= statements_walked inner units at more) ≡ Ok t → S at (c ∷ more) s t
      one_made label x l k plain h =
          let here : c.statement ≡ x = k in
          rules.statement at c more s t (subst IsNoInstance (sym here) plain)
          (rest (with_statement (concurrent at.setting at.scope c.label c.statement (numbering s)) s)
          (subst (λ y. statements_walked inner units at more (with_statement (concurrent at.setting at.scope c.label y (numbering s)) s) ≡ Ok t) (sym here)
          (subst (λ y. statements_walked inner units at more (with_statement (concurrent at.setting at.scope y x (numbering s)) s) ≡ Ok t) (sym l)
          (subst (λ m. (m >>= statements_walked inner units at more) ≡ Ok t) (no_inner label x plain) h))))

      one : (label : Option Name) (x : ConcurrentStatement) → c.label ≡ label → c.statement ≡ x
          → (statement_walked inner units at label x s >>= statements_walked inner units at more) ≡ Ok t → S at (c ∷ more) s t
      one (Some x) (conc.Instance i) l k h =
          let p = then_is (statements_walked inner units at more) (inner (request_of at.setting units at.scope at.path at.number x i s) s) t h in
          rules.instance at c more x i s p.0 t l k (deeper (request_of at.setting units at.scope at.path at.number x i s) s p.0 p.1) (rest p.0 p.2)
      one None (conc.Instance i) l k h = rules.unlabelled at c more i s t l k (rest s h)
      one label (conc.Process p) l k h = one_made label (conc.Process p) l k tt h
      one label (conc.Assign x d all last when) l k h = one_made label (conc.Assign x d all last when) l k tt h
      one label (conc.Assert a) l k h = one_made label (conc.Assert a) l k tt h
      one label (conc.Break p all names when) l k h = one_made label (conc.Break p all names when) l k tt h
      one label (conc.Equation q) l k h = one_made label (conc.Equation q) l k tt h
      one label (conc.If p all last) l k h = one_made label (conc.If p all last) l k tt h
      one label (conc.Case p x all) l k h = one_made label (conc.Case p x all) l k tt h

    each : (at : Around) (all : List Concurrent) (s t : Site) → statements_walked inner units at all s ≡ Ok t → S at all s t
    each at [] s t h = subst (λ u. S at [] s u) (same_answer s t h) (rules.nothing at s)
    each at (c ∷ more) s t h = one at c more s t (λ u k. each at more u t k) c.label c.statement refl refl h

    -- ---- bodies

    module _ (above : List ℕ) (r : Request) (s t : Site) (room : length s.objects.instances < instance_limit) where
      behind_body : (e : Entity) (a : Architecture) (entry : Entry) → entity_in units r.entity ≡ Some e → architecture_in units r.entity r.architecture ≡ Some a
          → entry_of_instance texts r e s ≡ Some entry → body_entered inner texts units r e a entry s ≡ Ok t → R r s t
      behind_body e a entry is also entering h =
          let walk = statements_walked inner units (around_body texts r a entry s) a.statements in
          let found = first_fault is_of_instances (body_notes texts units a entry s).faults in
          let start = begun texts units r e a entry s in
          let p = then_is walk (unbroken found start >>= within_limits) t h in
          let q = then_is within_limits (unbroken found start) p.0 p.1 in
          let u = unbroken_is found start q.0 q.1 in
          let same = within_is start p.0 (subst (λ z. within_limits z ≡ Ok p.0) (sym u.1) q.2) in
          rules.body r s t e a entry
          (record { room = room; entity_is = is; architecture_is = also; entry_is = entering; unbroken = u.0; limits = same.0 })
          (each (around_body texts r a entry s) a.statements start t (subst (λ z. walk z ≡ Ok t) (sym same.1) p.2))

      behind_interface : (e : Entity) (a : Architecture) (o : Option Entry) → entity_in units r.entity ≡ Some e → architecture_in units r.entity r.architecture ≡ Some a
          → entry_of_instance texts r e s ≡ o → interface_entered inner texts units r e a o s ≡ Ok t → R r s t
      behind_interface e a None is also entering h = no_answer _ t h
      behind_interface e a (Some entry) is also entering h = behind_body e a entry is also entering h

      behind_unit : (oe : Option Entity) (oa : Option Architecture) → entity_in units r.entity ≡ oe → architecture_in units r.entity r.architecture ≡ oa
          → unit_entered inner texts units above r oe oa s ≡ Ok t → R r s t
      behind_unit None oa is also h = no_answer _ t h
      behind_unit (Some e) None is also h = no_answer _ t h
      behind_unit (Some e) (Some a) is also h =
          let p = passed (list_any (nat_eq r.entity) above) (Recursive r.path) (interface_entered inner texts units r e a (entry_of_instance texts r e s) s) t h in
          behind_interface e a (entry_of_instance texts r e s) is also refl p.1

    has_room : (b : Bool) (x : Refusal) (m : Result Site Refusal) (t : Site) → (if b then m else Err x) ≡ Ok t → (b ≡ true) × (m ≡ Ok t)
    has_room true x m t h = (refl, h)
    has_room false x m t h = no_answer x t h

    one_level : (above : List ℕ) (r : Request) (s t : Site) → entered inner texts units above r s ≡ Ok t → R r s t
    one_level above r s t h =
        let p = has_room (nat_lt (length s.objects.instances) instance_limit) (TooMany limit.Instances)
        (unit_entered inner texts units above r (entity_in units r.entity) (architecture_in units r.entity r.architecture) s) t h in
        behind_unit above r s t (is_less (length s.objects.instances) instance_limit p.0) (entity_in units r.entity) (architecture_in units r.entity r.architecture) refl refl p.1

  -- what each step keeps, the walk keeps
  pub walk_keeps : (depth : ℕ) (above : List ℕ) (r : Request) (s t : Site) → enter texts units depth above r s ≡ Ok t → R r s t
  unfolding enter
  walk_keeps zero above r s t h = no_answer _ t h
  walk_keeps (suc depth) above r s t h =
      one_level (enter texts units depth (above ++ r.entity ∷ [])) (λ q u v k. walk_keeps depth (above ++ r.entity ∷ []) q u v k) above r s t h
