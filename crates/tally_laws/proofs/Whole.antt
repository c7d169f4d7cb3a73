-- The instances of a walk count the equations and the quantities of the design.
use Rattle.std.proofs.Common.{◌≡◌, ◌≤◌, ◌<◌, ℕ, zero, suc, ◌+◌, ◌-◌, nat_eq, Bool, true, false, IsTrue, List, [], ◌∷◌, ◌++◌, length, Option, Some, None, IfSome, Result, Ok, Err, refl, sym, ap, ◌∙◌, subst, arith, length-append}
use Rattle.std.specs.Prelude.{◌≢◌}
use Rattle.std.specs.List.{list_any, All}
use Rattle.std.proofs.lemmas.Bool.Decides.{nat_tests}
use Rattle.std.proofs.lemmas.List.Elements.{All-nil, All-head, All-tail, All-append}
use Rattle.std.proofs.lemmas.List.Sums.{sum_by_push}
use Rattle.ams_tree.specs.declared.expression.Name.{Name}
use Rattle.ams_tree.specs.declared.concurrent.Concurrent.{Concurrent}
use Rattle.ams_tree.specs.declared.concurrent.ConcurrentStatement.{ConcurrentStatement}
use Rattle.ams_tree.specs.declared.concurrent.ConcurrentStatement.TheVariants as conc
use Rattle.ams_tree.specs.declared.concurrent.Instance.{Instance as Written}
use Rattle.ams_tree.specs.declared.design.Architecture.{Architecture}
use Rattle.ams_tree.specs.declared.design.DesignUnit.{DesignUnit}
use Rattle.ams_tree.specs.declared.design.Entity.{Entity}
use Rattle.flat_design.specs.Limits.{instance_limit}
use Rattle.flat_design.specs.declared.objects.Instance.{Instance}
use Rattle.flat_design.specs.declared.objects.Equation.{Equation}
use Rattle.elab_meaning.specs.declared.book.Book.{Book}
use Rattle.unit_meaning.specs.declared.request.Request.{Request}
use Rattle.unit_meaning.specs.declared.site.Site.{Site}
use Rattle.unit_meaning.specs.Concurrent.{concurrent}
use Rattle.unit_meaning.specs.Simultaneous.{equation_count}
use Rattle.unit_meaning.specs.Units.{opened}
use Rattle.unit_meaning.specs.Walk.{Entry, Around, entry_of_instance, instance_of, lessened, out_count, quantity_count, equations_of, request_of, numbering, with_statement, first_site, top_request, walked}
use Rattle.walk_laws.specs.Steps.{begun, around_body, IsEntered, IsNoInstance}
use Rattle.walk_laws.proofs.Induction.{WalkRules, walk_keeps, no_answer}
use Rattle.object_laws.specs.Adding.{AddsObjects}
use Rattle.object_laws.proofs.Adding.{adds_on}
use Rattle.object_laws.proofs.Interface.{entering_adds_objects}
use Rattle.member_laws.proofs.Members.{few_among}
use Rattle.source_laws.specs.Sources.{SourcesAre, RequestAmong, AtMostMore, uses, Once, BindsSources}
use Rattle.source_laws.proofs.Whole.{sources_are_counted}
use Rattle.tally_laws.specs.Tally.{quantity_sum, size_sum, equation_sum, unknown_sum, IsTallied, MakesAsCounted, InnerKeeps, CountsAreMade, WalksAreTallied}
use Rattle.tally_laws.proofs.Instances.{unknowns_at, lessened_unknowns, lessened_equations, still_long, at_front, at_end, past_end, lessened_own, lessened_other}
use Rattle.tally_laws.proofs.Behind.{Sourced, Fresh, Same, same_sourced, same_on, Behind, behind_same, behind_on, behind_as, behind_made}

nothing_long : (xs : List ℕ) → length xs ≡ 0 → xs ≡ []
nothing_long [] h = refl
nothing_long (x ∷ xs) h = absurd (omega arith)

equal_is : (m n : ℕ) → nat_eq m n ≡ true → m ≡ n
equal_is m n h = grind (arith, nat_tests)

unequal_is : (m n : ℕ) → nat_eq m n ≡ false → m ≢ n
unequal_is m n h e = absurd (grind (arith, nat_tests))

less_differs : (m n : ℕ) → m < n → m ≢ n
less_differs m n lt e = absurd (omega arith)

module _ (texts : List (List ℕ)) (units : List DesignUnit) (Q : Request → Type 0) (made : CountsAreMade texts units Q) where
  abbrev Enters : Request → Site → Site → Type 0
  Enters r s t = Q r → Fresh s → (all : List ℕ) → Sourced r.outer all s → RequestAmong all r → Behind 0 r.outer all s t

  abbrev Inside : Around → Concurrent → Type 0
  Inside at c = InnerKeeps Q units at c.statement

  abbrev Runs : Around → List Concurrent → Site → Site → Type 0
  Runs at todo s t =
      All (MakesAsCounted at) todo → All (Inside at) todo → Fresh s → at.number < length s.objects.instances
      → (all : List ℕ) → SourcesAre all at.scope → Sourced at.number all s → Behind (equations_of todo) at.number all s t

  -- ---- statements

  nothing_more : (at : Around) (s : Site) → Runs at [] s s
  nothing_more at s m i f lt all are h = behind_same at.number all s f h

  no_equation : (x : ConcurrentStatement) (i : Written) → x ≡ conc.Instance i → 0 ≡ equation_count x
  no_equation x i e = sym (ap equation_count e)

  behind_instance : (at : Around) (c : Concurrent) (more : List Concurrent) (x : Name) (i : Written) (s u t : Site) → c.label ≡ Some x → c.statement ≡ conc.Instance i
      → Enters (request_of at.setting units at.scope at.path at.number x i s) s u → Runs at more u t → Runs at (c ∷ more) s t
  behind_instance at c more x i s u t l k p q m inside f lt all are h =
      let keeps : InnerKeeps Q units at (conc.Instance i) = subst (InnerKeeps Q units at) k (All-head (Inside at) c more inside) in
      let first : Behind 0 at.number all s u = p (keeps x s) f all h (sources_are_counted.inner at.setting units at.scope at.path at.number x i s all are) in
      let rest : Behind (equations_of more) at.number all u t =
      q (All-tail (MakesAsCounted at) c more m) (All-tail (Inside at) c more inside) first.fresh (omega (arith, first.longer, lt)) all are (first.own lt) in
      behind_as (0 + equations_of more) (equation_count c.statement + equations_of more) at.number all s t
      (ap (λ (n : ℕ). n + equations_of more) (no_equation c.statement i k))
      (behind_on 0 (equations_of more) at.number all s u t first rest)

  behind_none : (at : Around) (c : Concurrent) (more : List Concurrent) (i : Written) (s t : Site) → c.label ≡ None → c.statement ≡ conc.Instance i → Runs at more s t → Runs at (c ∷ more) s t
  behind_none at c more i s t l k q m inside f lt all are h =
      let none : 0 ≡ equation_count c.statement = no_equation c.statement i k in
      behind_as (equations_of more) (equation_count c.statement + equations_of more) at.number all s t (omega (arith, none))
      (q (All-tail (MakesAsCounted at) c more m) (All-tail (Inside at) c more inside) f lt all are h)

  behind_statement : (at : Around) (c : Concurrent) (more : List Concurrent) (s t : Site) → IsNoInstance c.statement
      → Runs at more (with_statement (concurrent at.setting at.scope c.label c.statement (numbering s)) s) t → Runs at (c ∷ more) s t
  behind_statement at c more s t plain q m inside f lt all are h =
      let found = concurrent at.setting at.scope c.label c.statement (numbering s) in
      let u = with_statement found s in
      let first : Behind (equation_count c.statement) at.number all s u =
      behind_as _ (equation_count c.statement) at.number all s u (All-head (MakesAsCounted at) c more m plain (numbering s) refl) (behind_made at.number all found.0 found.1 s f h) in
      behind_on (equation_count c.statement) (equations_of more) at.number all s u t first
      (q (All-tail (MakesAsCounted at) c more m) (All-tail (Inside at) c more inside) first.fresh (omega (arith, first.longer, lt)) all are (first.own lt))

  -- ---- bodies

  module _ (r : Request) (s t : Site) (e : Entity) (a : Architecture) (entry : Entry) (h : IsEntered texts units r s e a entry)
      (keeps : Q r) (fresh : Fresh s) (all : List ℕ) (sourced : Sourced r.outer all s) (asked : RequestAmong all r) where
    abbrev old : List Instance
    old = s.objects.instances

    abbrev book : Book
    book = opened texts a entry.book

    abbrev outs : ℕ
    outs = out_count e.ports

    abbrev start : Site
    start = begun texts units r e a entry s

    abbrev one : Instance
    one = instance_of r e a

    added : AddsObjects s.objects book.objects
    added =
        adds_on s.objects entry.book.objects book.objects
        (subst (λ (o : Option Entry). IfSome o (λ (x : Entry). AddsObjects s.objects x.book.objects)) h.entry_is (entering_adds_objects.interface texts r e s))
        (entering_adds_objects.declarations texts a entry.book)

    binds : BindsSources r e s entry
    binds = subst (λ (o : Option Entry). IfSome o (BindsSources r e s)) h.entry_is (sources_are_counted.interface texts r e s)

    instances_are : start.objects.instances ≡ lessened r.outer outs old ++ one ∷ []
    instances_are = ap (λ (l : List Instance). lessened r.outer outs l ++ one ∷ []) added.instances

    long : length start.objects.instances ≡ length old + 1
    long = ap length instances_are ∙ (length-append (lessened r.outer outs old) (one ∷ []) ∙ ap (λ n. n + 1) (still_long r.outer outs old))

    -- as many as the ports of mode out take are there
    fits : outs ≤ unknowns_at r.outer old
    fits =
        let both : All (λ q. list_any (nat_eq q) all ≡ true) (uses r.outer s.used ++ binds.found) =
        All-append (λ q. list_any (nat_eq q) all ≡ true) (uses r.outer s.used) binds.found sourced.among (binds.among all asked) in
        let few : length (uses r.outer s.used ++ binds.found) ≤ length all =
        few_among (uses r.outer s.used ++ binds.found) all (subst Once binds.own (binds.once sourced.once)) both in
        omega (arith, few, sourced.room, binds.count, length-append (uses r.outer s.used) binds.found)

    not_used : (n : ℕ) → length old ≤ n → uses n entry.used ≡ []
    not_used n le = go (nat_eq n r.outer) refl
      where
        go : (b : Bool) → nat_eq n r.outer ≡ b → uses n entry.used ≡ []
        go true is =
            let same : n ≡ r.outer = equal_is n r.outer is in
            let none : unknowns_at n old ≡ 0 = past_end n old le in
            let zero_outs : outs ≤ 0 = subst (λ (k : ℕ). outs ≤ k) none (subst (λ (k : ℕ). outs ≤ unknowns_at k old) (sym same) fits) in
            let empty : binds.found ≡ [] = nothing_long binds.found (omega (arith, binds.count, zero_outs)) in
            subst (λ (k : ℕ). uses k entry.used ≡ []) (sym same)
            (binds.own ∙ (ap (λ (l : List ℕ). l ++ binds.found) (fresh r.outer (subst (λ (k : ℕ). length old ≤ k) same le)) ∙ empty))
        go false is = binds.others n (unequal_is n r.outer is) ∙ fresh n le

    start_fresh : Fresh start
    start_fresh n le = not_used n (omega (arith, long, le))

    sources : AtMostMore binds.found (quantity_count a.declarations) book.scope
    sources = sources_are_counted.declarations texts a entry.book binds.found binds.sources

    abbrev here : List ℕ
    here = binds.found ++ sources.more

    new_at : unknowns_at (length old) start.objects.instances ≡ quantity_count a.declarations + outs
    new_at =
        ap (unknowns_at (length old)) instances_are
        ∙ (ap (λ (n : ℕ). unknowns_at n (lessened r.outer outs old ++ one ∷ [])) (sym (still_long r.outer outs old)) ∙ at_end (lessened r.outer outs old) one)

    new_sourced : Sourced (length old) here start
    new_sourced =
        let none : uses (length old) start.used ≡ [] = not_used (length old) (omega arith) in
        record {
          room = omega (arith, new_at, sources.few, binds.count, length-append binds.found sources.more);
          once = subst Once (sym none) (λ i j d less lt. absurd (omega arith));
          among = subst (λ (l : List ℕ). All (λ q. list_any (nat_eq q) here ≡ true) l) (sym none) (All-nil (λ q. list_any (nat_eq q) here ≡ true));
        }

    same_other : (n : ℕ) → n < length old → n ≢ r.outer → Same n s start
    same_other n lt d =
        record {
          unknowns =
              ap (unknowns_at n) instances_are
              ∙ (at_front n (lessened r.outer outs old) one (omega (arith, still_long r.outer outs old, lt)) ∙ lessened_other n r.outer outs old d);
          uses_are = binds.others n d;
        }

    own_sourced : r.outer < length old → Sourced r.outer all start
    own_sourced lt =
        let rest : unknowns_at r.outer start.objects.instances ≡ unknowns_at r.outer old - outs =
        ap (unknowns_at r.outer) instances_are
        ∙ (at_front r.outer (lessened r.outer outs old) one (omega (arith, still_long r.outer outs old, lt)) ∙ lessened_own r.outer outs old) in
        let taken : length (uses r.outer start.used) ≡ length (uses r.outer s.used) + outs =
        ap length binds.own ∙ (length-append (uses r.outer s.used) binds.found ∙ ap (λ n. length (uses r.outer s.used) + n) binds.count) in
        record {
          room = omega (arith, rest, taken, fits, sourced.room);
          once = binds.once sourced.once;
          among =
              subst (λ (l : List ℕ). All (λ q. list_any (nat_eq q) all ≡ true) l) (sym binds.own)
              (All-append (λ q. list_any (nat_eq q) all ≡ true) (uses r.outer s.used) binds.found sourced.among (binds.among all asked));
        }

    equations_begin : equation_sum start.objects.instances ≡ equation_sum old + equations_of a.statements
    equations_begin =
        ap equation_sum instances_are
        ∙ (sum_by_push (λ (x : Instance). x.equations) (lessened r.outer outs old) one ∙ ap (λ n. n + equations_of a.statements) (lessened_equations r.outer outs old))

    unknowns_begin : unknown_sum start.objects.instances ≡ unknown_sum old + quantity_count a.declarations
    unknowns_begin =
        let pushed : unknown_sum start.objects.instances ≡ unknown_sum (lessened r.outer outs old) + (quantity_count a.declarations + outs) =
        ap unknown_sum instances_are ∙ sum_by_push (λ (x : Instance). x.unknowns) (lessened r.outer outs old) one in
        let less : unknown_sum (lessened r.outer outs old) + outs ≡ unknown_sum old = lessened_unknowns r.outer outs old fits in
        omega (arith, pushed, less)

    behind_body : Runs (around_body texts r a entry s) a.statements start t → Behind 0 r.outer all s t
    behind_body q =
        let k : Behind (equations_of a.statements) (length old) here start t =
        q (made.equations r s e a entry keeps h) (made.inner r s e a entry keeps h) start_fresh (omega (arith, long)) here sources.are new_sourced in
        let sizes : size_sum start.objects.equations ≡ size_sum s.objects.equations = ap size_sum added.equations in
        let quantities : quantity_sum start.objects.quantities ≡ quantity_sum s.objects.quantities + quantity_count a.declarations = made.quantities r s e a entry keeps h in
        record {
          equations = omega (arith, k.equations, equations_begin, sizes);
          unknowns = omega (arith, k.unknowns, unknowns_begin, quantities);
          fresh = k.fresh;
          longer = omega (arith, k.longer, long);
          own = λ lt. same_sourced r.outer all start t (k.others r.outer (omega (arith, long, lt)) (less_differs r.outer (length old) lt)) (own_sourced lt);
          others = λ n lt d. same_on n s start t (same_other n lt d) (k.others n (omega (arith, long, lt)) (less_differs n (length old) lt));
        }

  rules : WalkRules texts units Enters Runs
  rules =
      record {
        nothing = nothing_more;
        instance = behind_instance;
        unlabelled = behind_none;
        statement = behind_statement;
        body = λ r s t e a entry h q keeps fresh all sourced asked. behind_body r s t e a entry h keeps fresh all sourced asked q;
      }

  -- ---- the whole

  pub tallied : (top : List ℕ) (x : Option ℕ) (s : Site) → walked texts units top x ≡ Ok s → IsTallied s.objects
  tallied top None s h = no_answer _ s h
  tallied top (Some x) s h =
      let k : Behind 0 instance_limit [] first_site s =
      walk_keeps texts units Enters Runs rules instance_limit [] (top_request top x) first_site s h (made.top top x) (λ n le. refl) []
      (record { room = omega arith; once = λ i j d less lt. absurd (omega arith); among = All-nil (λ q. list_any (nat_eq q) [] ≡ true) })
      (λ i d lt. absurd (omega arith)) in
      record { equations = omega (arith, k.equations); unknowns = omega (arith, k.unknowns) }

pub walks_are_tallied : WalksAreTallied
walks_are_tallied texts units top x s keeps made h = tallied texts units (λ r. IsTrue (keeps r)) made top x s h
