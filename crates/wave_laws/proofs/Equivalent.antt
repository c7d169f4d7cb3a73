-- The statement that the waveforms of a concurrent signal assignment stand for.
use Rattle.std.proofs.Common.{◌≡◌, ◌<◌, ◌+◌, ℕ, suc, arith, inl, inr, ⊎_elim, Bool, true, false, List, [], ◌∷◌, ◌++◌, length, append_assoc, append-nil, Option, Some, None, IsTrue, refl, ap, sym, ◌∙◌, subst}
use Rattle.std.specs.Prelude.{nat_eq, ◌||◌}
use Rattle.std.specs.List.{All, list_any}
use Rattle.flat_expr.specs.declared.expr.FlatExpr.{FlatExpr}
use Rattle.flat_expr.specs.declared.expr.SignalName.{SignalName}
use Rattle.flat_expr.specs.declared.statement.Branch.{Branch}
use Rattle.flat_expr.specs.declared.statement.Statement.{Statement, out-Statement}
use Rattle.flat_expr.specs.declared.statement.Statement.TheVariants as statement
use Rattle.flat_expr.specs.declared.statement.Statement.TheVariants.{rolls-If}
use Rattle.flat_expr.specs.declared.statement.Statement.TheOpen.{Statement-F}
use Rattle.flat_design.specs.declared.objects.Objects.{Objects}
use Rattle.flat_design.specs.declared.objects.PathStep.{PathStep}
use Rattle.flat_design.specs.declared.objects.Process.{Process}
use Rattle.name_scope.specs.declared.scope.Scope.{Scope}
use Rattle.name_scope.specs.declared.thing.Subtype.{Subtype}
use Rattle.unit_meaning.specs.Settings.{Setting}
use Rattle.unit_meaning.specs.Processes.{Wave, branch_of, choosing, equivalent, top_spot}
use Rattle.cycle_meaning.specs.World.{drives}
use Rattle.design_rules.specs.Types.{process_scope}
use Rattle.scope_laws.specs.Holds.{ScopeHolds}
use Rattle.place_laws.specs.Places.{EachPlace, HoldsHere, Stands, Assigns, AssignsHere}
use Rattle.place_laws.proofs.Places.{none_stands, one_more_stands, assigns_first}
use Rattle.allowed_laws.proofs.Targets.{IsTarget}
use Rattle.body_laws.specs.Bodies.{AreParameters, StatementIs}
use Rattle.body_laws.proofs.Lists.{is_number, same_number, truth_or}
use Rattle.body_laws.proofs.Branches.{At, BranchesAre, no_branches, BranchIs, more_branches, if_is}
use Rattle.body_laws.proofs.Leaves.{IsPlain, plain_holds, opens_as}
use Rattle.wave_laws.proofs.Waves.{IsWave}

arms_of : List Wave → List Branch
arms_of [] = []
arms_of (x ∷ more) = elim x.when as (λ o. List Branch) [ Some c ↦ branch_of x c ∷ arms_of more | None ↦ [] ]

last_of : List Wave → List Statement
last_of [] = []
last_of (x ∷ more) = elim x.when as (λ o. List Statement) [ Some c ↦ last_of more | None ↦ x.assigns ∷ [] ]

abbrev wave_of : Statement → Option FlatExpr → List SignalName → Wave
wave_of a o r = record { assigns = a; when = o; reads = r }

-- waveforms are the branches of an if
chosen : (so_far : List Branch) (all : List Wave) → choosing so_far all ≡ statement.If (so_far ++ arms_of all) (last_of all)
unfolding arms_of last_of
chosen so_far [] = ap (λ (z : List Branch). statement.If z []) (sym (append-nil so_far))
chosen so_far (x ∷ more) = by_condition x.assigns x.when x.reads (λ z. chosen z more)
  where
    by_condition : (a : Statement) (o : Option FlatExpr) (r : List SignalName) → ((z : List Branch) → choosing z more ≡ statement.If (z ++ arms_of more) (last_of more))
        → choosing so_far (wave_of a o r ∷ more) ≡ statement.If (so_far ++ arms_of (wave_of a o r ∷ more)) (last_of (wave_of a o r ∷ more))
    by_condition a (Some c) r h =
        h (so_far ++ branch_of (wave_of a (Some c) r) c ∷ []) ∙ ap (λ (z : List Branch). statement.If z (last_of more)) (append_assoc so_far (branch_of (wave_of a (Some c) r) c ∷ []) (arms_of more))
    by_condition a None r h = ap (λ (z : List Branch). statement.If z (a ∷ [])) (sym (append-nil so_far))

module _ (objects : Objects) (p : Process) (w : Setting) (scope : Scope) (holds : ScopeHolds (process_scope objects p) p.variables [] scope) (t : ℕ × Subtype) (at : IsTarget objects p [] t) (driven : IsTrue (drives t.0 p)) where
  abbrev Good : Wave → Type 0
  Good = IsWave objects p w scope holds t at driven

  abbrev used : List ℕ
  used = t.0 ∷ []

  nothing : (i : ℕ) → list_any (nat_eq i) [] ≡ true → ⊥
  nothing i h = absurd (cc)

  no_parameters : AreParameters p.variables []
  no_parameters i h = absurd (nothing i h)

  pub is_it : (j : ℕ) → list_any (nat_eq j) used ≡ true → j ≡ t.0
  is_it j h = ⊎_elim (λ here. is_number j t.0 here) (λ there. absurd (nothing j there)) (truth_or (nat_eq j t.0) (list_any (nat_eq j) []) h)

  -- the assignment of a waveform, by itself and in a branch
  assigns_here : (x : Wave) → Good x → (j : ℕ) → j ≡ t.0 → AssignsHere j (out-Statement x.assigns)
  assigns_here x h j is =
      inl (h.assigns.0, h.assigns.1, h.assigns.2, h.assigns.3 ∙ ap (λ (z : ℕ). Statement-F.SignalAssignment z h.assigns.0 h.assigns.1 h.assigns.2) (sym is))

  assigns_in : (x : Wave) → Good x → (j : ℕ) → j ≡ t.0 → Assigns j (x.assigns ∷ [])
  assigns_in x h j is = assigns_first j x.assigns [] (assigns_here x h j is)

  stands_at : (steps : List PathStep) (x : Wave) → Good x → HoldsHere (Stands objects p) steps [] 0 (out-Statement x.assigns)
  stands_at steps x h = plain_holds objects p steps [] 0 no_parameters (out-Statement x.assigns) (subst IsPlain (sym h.assigns.3) tt) h.may

  body_at : (steps : List PathStep) (x : Wave) → Good x → EachPlace (Stands objects p) steps [] (x.assigns ∷ [])
  body_at steps x h = one_more_stands objects p steps [] [] x.assigns (none_stands objects p steps []) (stands_at steps x h)

  head : (x : Wave) (all : List Wave) → All Good (x ∷ all) → Good x
  head x all h = h 0 x (omega arith)

  tail : (x : Wave) (all : List Wave) → All Good (x ∷ all) → All Good all
  tail x all h i d lt = h (suc i) d (omega arith)

  arm_is : (k : ℕ) (before : List ℕ) (a : Statement) (c : FlatExpr) (r : List SignalName) → Good (wave_of a (Some c) r) → BranchIs objects p [] [] 0 k before used (branch_of (wave_of a (Some c) r) c)
  arm_is k before a c r h =
      record { condition = h.when; places = body_at (record { statement = 0; branch = k } ∷ []) (wave_of a (Some c) r) h; drivers = λ j is. inr (assigns_in (wave_of a (Some c) r) h j (is_it j is)) }

  arms_are : (all : List Wave) (k : ℕ) → All Good all → BranchesAre objects p [] [] 0 k (length (arms_of all)) used used (arms_of all)
  unfolding arms_of
  arms_are [] k h = no_branches objects p [] [] 0 k used
  arms_are (x ∷ more) k h = by_condition x.assigns x.when x.reads (head x more h) (arms_are more (k + 1) (tail x more h))
    where
      by_condition : (a : Statement) (o : Option FlatExpr) (r : List SignalName) → Good (wave_of a o r) → BranchesAre objects p [] [] 0 (k + 1) (length (arms_of more)) used used (arms_of more)
          → BranchesAre objects p [] [] 0 k (length (arms_of (wave_of a o r ∷ more))) used used (arms_of (wave_of a o r ∷ more))
      by_condition a (Some c) r g rest =
          more_branches objects p [] [] 0 k (length (arms_of more)) used used used (branch_of (wave_of a (Some c) r) c) (arms_of more) (arm_is k used a c r g) rest
      by_condition a None r g rest = no_branches objects p [] [] 0 k used

  last_at : (all : List Wave) (k : ℕ) → All Good all → At objects p [] [] 0 k (last_of all)
  unfolding last_of
  last_at [] k h = none_stands objects p (record { statement = 0; branch = k } ∷ []) []
  last_at (x ∷ more) k h = by_condition x.assigns x.when x.reads (head x more h) (last_at more k (tail x more h))
    where
      by_condition : (a : Statement) (o : Option FlatExpr) (r : List SignalName) → Good (wave_of a o r) → At objects p [] [] 0 k (last_of more) → At objects p [] [] 0 k (last_of (wave_of a o r ∷ more))
      by_condition a (Some c) r g rest = rest
      by_condition a None r g rest = body_at (record { statement = 0; branch = k } ∷ []) (wave_of a None r) g

  -- what is shown of the statement
  pub record IsRight (s : Statement) : Type 0 where
    pub places : HoldsHere (Stands objects p) [] [] 0 (out-Statement s)
    pub assigns : (j : ℕ) → j ≡ t.0 → AssignsHere j (out-Statement s)

  from_statement : (s : Statement) → StatementIs objects p top_spot 0 [] used s → IsRight s
  from_statement s h =
      record {
        places = h.places;
        assigns = λ j is. ⊎_elim (λ old. absurd (nothing j old)) (λ new. new) (h.drivers j (subst (λ (z : ℕ). list_any (nat_eq z) used ≡ true) (sym is) it));
      }
    where
      it : list_any (nat_eq t.0) used ≡ true
      it = or_first (nat_eq t.0 t.0) (list_any (nat_eq t.0) []) (same_number t.0)
        where
          or_first : (a b : Bool) → a ≡ true → (a || b) ≡ true
          or_first true b h = refl
          or_first false b h = absurd (cc)

  choice_right : (x : Wave) (more : List Wave) → All Good (x ∷ more) → IsRight (choosing [] (x ∷ more))
  unfolding arms_of last_of
  choice_right x more h =
      subst IsRight (sym (chosen [] (x ∷ more)))
      (from_statement (statement.If (arms_of (x ∷ more)) (last_of (x ∷ more))) (by_condition x.assigns x.when x.reads (head x more h) (tail x more h)))
    where
      whole : (arms : List Branch) (last : List Statement) → out-Statement (statement.If arms last) ≡ Statement-F.If arms last
      whole arms last = opens_as (statement.If arms last) (Statement-F.If arms last) (rolls-If arms last)

      by_condition : (a : Statement) (o : Option FlatExpr) (r : List SignalName) → Good (wave_of a o r) → All Good more
          → StatementIs objects p top_spot 0 [] used (statement.If (arms_of (wave_of a o r ∷ more)) (last_of (wave_of a o r ∷ more)))
      by_condition a (Some c) r g rest =
          if_is objects p top_spot 0 (suc (length (arms_of more))) [] used used (statement.If (branch_of (wave_of a (Some c) r) c ∷ arms_of more) (last_of more)) (branch_of (wave_of a (Some c) r) c ∷ arms_of more)
          (last_of more) (whole (branch_of (wave_of a (Some c) r) c ∷ arms_of more) (last_of more))
          (more_branches objects p [] [] 0 0 (length (arms_of more)) [] used used (branch_of (wave_of a (Some c) r) c) (arms_of more) (arm_is 0 [] a c r g) (arms_are more 1 rest))
          (last_at more (suc (length (arms_of more))) rest) (λ j is. inl is)
      by_condition a None r g rest =
          if_is objects p top_spot 0 0 [] [] used (statement.If [] (a ∷ [])) [] (a ∷ []) (whole [] (a ∷ [])) (no_branches objects p [] [] 0 0 [])
          (body_at (record { statement = 0; branch = 0 } ∷ []) (wave_of a None r) g) (λ j is. inr (assigns_in (wave_of a None r) g j (is_it j is)))

  pub equivalent_right : (all : List Wave) → All Good all → 0 < length all → IsRight (equivalent all)
  equivalent_right [] h some = absurd (omega arith)
  equivalent_right (x ∷ []) h some = by_condition x.assigns x.when x.reads (head x [] h) (choice_right x [] h)
    where
      by_condition : (a : Statement) (o : Option FlatExpr) (r : List SignalName) → Good (wave_of a o r) → IsRight (choosing [] (wave_of a o r ∷ [])) → IsRight (equivalent (wave_of a o r ∷ []))
      by_condition a (Some c) r g chosen = chosen
      by_condition a None r g chosen = record { places = stands_at [] (wave_of a None r) g; assigns = assigns_here (wave_of a None r) g }
  equivalent_right (x ∷ y ∷ more) h some = choice_right x (y ∷ more) h
