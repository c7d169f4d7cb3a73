-- Each statement that is read stands right, by induction on the tree.
use Rattle.std.proofs.Common.{◌≡◌, ◌<◌, ◌+◌, ℕ, suc, arith, pos, Bool, true, false, List, [], ◌∷◌, length, map, Option, Some, None, refl, sym, ◌∙◌, subst}
use Rattle.std.specs.Prelude.{nat_eq, nat_lt, ◌&&◌}
use Rattle.std.specs.List.{All, list_any, slice_get, flat_map}
use Rattle.std.proofs.lemmas.Bool.Decides.{nat_tests}
use Rattle.ams_token.specs.declared.token.Place.{Place}
use Rattle.ams_tree.specs.declared.expression.Name.{Name}
use Rattle.ams_tree.specs.declared.expression.Expr.{Expr}
use Rattle.ams_tree.specs.declared.declaration.Direction.{Direction}
use Rattle.ams_tree.specs.declared.sequential.Alternative.{Alternative as WrittenAlternative}
use Rattle.ams_tree.specs.declared.sequential.Branch.{Branch as WrittenBranch}
use Rattle.ams_tree.specs.declared.sequential.Choice.{Choice}
use Rattle.ams_tree.specs.declared.sequential.Iteration.{Iteration}
use Rattle.ams_tree.specs.declared.sequential.Iteration.TheVariants as iteration
use Rattle.ams_tree.specs.declared.sequential.Seq.{Seq}
use Rattle.ams_tree.specs.declared.sequential.Seq.TheOpen.{Branch-F, Alternative-F, Seq-F}
use Rattle.ams_tree.specs.declared.sequential.Seq.TheViews.{roll-Seq, roll-Alternative, roll-Branch}
use Rattle.ams_tree.specs.declared.sequential.Seq.TheFolds.{map-Seq, map-Alternative, map-Branch, fold-Branch, fold-Alternative, fold-roll-Seq, fold-roll-Alternative, fold-roll-Branch, ind-Seq}
use Rattle.ams_value.specs.declared.val.Val.TheVariants as val
use Rattle.ams_value.specs.declared.value_type.ValueType.{ValueType}
use Rattle.ams_value.specs.declared.value_type.ValueType.TheVariants as t
use Rattle.flat_expr.specs.declared.expr.FlatExpr.{FlatExpr}
use Rattle.flat_expr.specs.declared.subtype.Constraint.TheVariants.{Whole}
use Rattle.flat_expr.specs.declared.statement.Statement.{Statement}
use Rattle.flat_expr.specs.declared.statement.Branch.{Branch}
use Rattle.flat_expr.specs.declared.statement.Alternative.{Alternative, out-Alternative}
use Rattle.flat_expr.specs.declared.statement.Statement.TheVariants as statement
use Rattle.flat_expr.specs.declared.statement.Statement.TheVariants.{rolls-If, rolls-Case, rolls-Loop, rolls-For}
use Rattle.flat_expr.specs.declared.statement.Statement.TheOpen.{Statement-F}
use Rattle.flat_design.specs.declared.objects.Objects.{Objects}
use Rattle.flat_design.specs.declared.objects.Process.{Process}
use Rattle.flat_design.specs.declared.objects.Variable.{Variable}
use Rattle.name_scope.specs.declared.thing.Kind.{Kind}
use Rattle.name_scope.specs.declared.thing.Kind.TheVariants.{Of, Vector}
use Rattle.name_scope.specs.declared.thing.Thing.{Thing}
use Rattle.name_scope.specs.declared.thing.Thing.TheVariants as thing
use Rattle.name_scope.specs.declared.scope.Scope.{Scope}
use Rattle.name_scope.specs.Scopes.{inside, with_name}
use Rattle.elab_meaning.specs.declared.fault.Notes.{Notes}
use Rattle.elab_meaning.specs.declared.part.Part.{Part}
use Rattle.elab_meaning.specs.declared.part.Part.TheVariants.{Kept, Wrong, Hidden}
use Rattle.elab_meaning.specs.declared.typed.Typed.{Typed}
use Rattle.elab_meaning.specs.Expressions.{static_in}
use Rattle.elab_meaning.specs.Parts.{judged, both, closed}
use Rattle.elab_meaning.specs.Subtypes.{direction_of}
use Rattle.unit_meaning.specs.declared.draft.Draft.{Draft}
use Rattle.unit_meaning.specs.declared.draft.Seen.{Seen}
use Rattle.unit_meaning.specs.declared.draft.Spot.{Spot}
use Rattle.unit_meaning.specs.Settings.{Setting, running, typed, must_be, given, paired, ahead}
use Rattle.unit_meaning.specs.Cases.{choices, nothing_seen, covers}
use Rattle.unit_meaning.specs.Sequential.{with_notes, with_parameter, way_to, looping, within_loop, Reads, CaseReads, BranchReads, body, made_branch, branch_step, branches, otherwise, made_if, made_alternative, alternative_step, alternatives, kind_known, made_case, made_loop, made_for, loop_statement, seq_step, statement_of}
use Rattle.elab_meaning.specs.Notes.{text_of}
use Rattle.design_rules.specs.Choices.{AreChoices}
use Rattle.design_rules.specs.Types.{sizes_of, process_scope, variables_named, IsVisible, IsExpression}
use Rattle.design_rules.specs.Statements.{MayBe}
use Rattle.typed_laws.specs.Fitting.{HasRoom, HasKind, IsRead}
use Rattle.typed_laws.proofs.Typing.{room_before}
use Rattle.part_laws.specs.Parts.{OnKept, KeepsPart}
use Rattle.part_laws.proofs.Parts.{judged_kept, both_kept, where_kept, typed_keeps}
use Rattle.part_laws.proofs.Process.{process_parts_fit}
use Rattle.scope_laws.specs.Holds.{HasNoFaults}
use Rattle.written_laws.specs.Written.{AreWritten, is_written, written_step, alternative_step as alternative_written, branch_step as branch_written, all_true, all_true_in, has_some}
use Rattle.draft_laws.specs.Drafts.{DraftGrows, alternative_of, branch_of}
use Rattle.draft_laws.proofs.Notes.{grows_closed}
use Rattle.draft_laws.proofs.Drafts.{draft_notes, draft_same, statement_grows, branch_of_grows, alternative_of_grows, all_grow, branches_of_grow, alternatives_of_grow}
use Rattle.allowed_laws.proofs.Targets.{any_part, never_kept}
use Rattle.body_laws.specs.Bodies.{StandsIn, ScopeStands, AreParameters, AroundStands, StatementIs, BodyIs, BodiesStand}
use Rattle.body_laws.proofs.Lists.{false_unless, end_at, end_below}
use Rattle.body_laws.proofs.Around.{stands_before, parameters_on, parameters_more, next_is_new, scope_in_loop}
use Rattle.body_laws.proofs.Leaves.{sealed_kept, together, opens_as, signal_is, variable_is, exit_is, next_is, wait_is, assertion_is, report_is, break_is, null_is}
use Rattle.body_laws.proofs.Branches.{body_first, body_none, body_places, BranchesAre, no_branches, BranchIs, more_branches, AlternativesAre, no_alternatives, AlternativeIs, more_alternatives, without, if_is, case_is, loop_is}

and_left : (a b : Bool) → (a && b) ≡ true → a ≡ true
and_left true b h = refl
and_left false b h = absurd (cc)

and_right : (a b : Bool) → (a && b) ≡ true → b ≡ true
and_right true b h = h
and_right false b h = absurd (cc)

is_less : (m n : ℕ) → nat_lt m n ≡ true → m < n
is_less m n h = grind (arith, nat_tests)

module _ (objects : Objects) (p : Process) (w : Setting) (Also : Thing → Bool) (around : AroundStands objects p w Also) where
  abbrev Here : List ℕ → Scope → Type 0
  Here ps scope = ScopeStands objects p ps w Also scope

  abbrev SeqReadsStand : Reads Statement → Type 0
  SeqReadsStand g =
      (scope : Scope) (spot : Spot) (i : ℕ) (d : Draft) → Here spot.parameters scope → AreParameters d.variables spot.parameters → StandsIn objects p (g scope spot i d).0
      → OnKept (StatementIs objects p spot i d.drivers (g scope spot i d).0.drivers) (g scope spot i d).1

  abbrev SeqStands : Seq → Type 0
  SeqStands s = is_written s ≡ true → SeqReadsStand (statement_of w s)

  abbrev CaseReadsStand : CaseReads → Type 0
  CaseReadsStand g =
      (scope : Scope) (spot : Spot) (i b : ℕ) (k : Option Kind) (seen : Seen) (d : Draft) → Here spot.parameters scope → AreParameters d.variables spot.parameters
      → StandsIn objects p (g scope (way_to spot i b) k seen d).0
      → OnKept (AlternativeIs objects p spot.path spot.parameters i b d.drivers (g scope (way_to spot i b) k seen d).0.drivers) (g scope (way_to spot i b) k seen d).1.1

  abbrev AlternativeStands : WrittenAlternative → Type 0
  AlternativeStands a = fold-Alternative Bool Bool Bool written_step alternative_written branch_written a ≡ true → CaseReadsStand (alternative_of w a)

  abbrev BranchReadsStand : BranchReads → Type 0
  BranchReadsStand g =
      (scope : Scope) (spot : Spot) (i k : ℕ) (d : Draft) → Here spot.parameters scope → AreParameters d.variables spot.parameters → StandsIn objects p (g scope (way_to spot i k) d).0
      → OnKept (BranchIs objects p spot.path spot.parameters i k d.drivers (g scope (way_to spot i k) d).0.drivers) (g scope (way_to spot i k) d).1

  abbrev BranchStands : WrittenBranch → Type 0
  BranchStands b = fold-Branch Bool Bool Bool written_step alternative_written branch_written b ≡ true → BranchReadsStand (branch_of w b)

  abbrev SeqPart : Type 0
  SeqPart = (s : Seq) × SeqStands s

  abbrev AlternativePart : Type 0
  AlternativePart = (a : WrittenAlternative) × AlternativeStands a

  abbrev BranchPart : Type 0
  BranchPart = (b : WrittenBranch) × BranchStands b

  abbrev seqs_of : List SeqPart → List Seq
  seqs_of all = map (λ (q : SeqPart). q.0) all

  abbrev branches_of : List BranchPart → List WrittenBranch
  branches_of all = map (λ (q : BranchPart). q.0) all

  abbrev alternatives_of : List AlternativePart → List WrittenAlternative
  alternatives_of all = map (λ (q : AlternativePart). q.0) all

  abbrev readings : List SeqPart → List (Reads Statement)
  readings all = map (statement_of w) (seqs_of all)

  abbrev branch_readings : List BranchPart → List BranchReads
  branch_readings all = map (branch_of w) (branches_of all)

  abbrev case_readings : List AlternativePart → List CaseReads
  case_readings all = map (alternative_of w) (alternatives_of all)

  abbrev Room : Notes → Type 0
  Room = HasRoom (process_scope objects p)

  -- ---- lists of statements

  bodies : (all : List SeqPart) → all_true (map is_written (seqs_of all)) ≡ true → (scope : Scope) (spot : Spot) (i : ℕ) (d : Draft) → Here spot.parameters scope → AreParameters d.variables spot.parameters
      → StandsIn objects p (body (readings all) scope spot i d).0 → OnKept (BodyIs objects p spot i d.drivers (body (readings all) scope spot i d).0.drivers) (body (readings all) scope spot i d).1
  bodies [] is scope spot i d here parameters stands = body_none objects p spot i d.drivers
  bodies (q ∷ more) is scope spot i d here parameters stands =
      let first = statement_of w q.0 scope spot i d in
      let rest = body (readings more) scope spot (i + 1) first.0 in
      both_kept Statement (List Statement) (List Statement) (StatementIs objects p spot i d.drivers first.0.drivers) (BodyIs objects p spot (i + 1) first.0.drivers rest.0.drivers)
      (BodyIs objects p spot i d.drivers rest.0.drivers) ahead (λ s all h g. body_first objects p spot i d.drivers first.0.drivers rest.0.drivers s all h g) first.1 rest.1
      (q.1 (and_left (is_written q.0) (all_true (map is_written (seqs_of more))) is) scope spot i d here parameters
      (stands_before objects p first.0 rest.0 (all_grow w (seqs_of more) scope spot (i + 1) first.0) stands))
      (bodies more (and_right (is_written q.0) (all_true (map is_written (seqs_of more))) is) scope spot (i + 1) first.0 here
      (parameters_on d.variables first.0.variables spot.parameters (statement_grows w q.0 scope spot i d).variables parameters) stands)

  -- ---- branches

  branch_stands : (x : Expr) (all : List SeqPart) → all_true (map is_written (seqs_of all)) ≡ true → BranchReadsStand (branch_step w (record { condition = x; body = readings all }))
  branch_stands x all is scope spot i k d here parameters stands =
      let c = must_be w scope running (Of t.Boolean) x d.notes in
      let inner = body (readings all) scope (way_to spot i k) 0 (with_notes c.0 d) in
      let read : KeepsPart FlatExpr Room (IsExpression objects p spot.parameters t.Boolean) d.notes c = process_parts_fit.must objects p spot.parameters w scope running t.Boolean x d.notes here.holds.fits in
      let goes : DraftGrows (with_notes c.0 d) inner.0 = all_grow w (seqs_of all) scope (way_to spot i k) 0 (with_notes c.0 d) in
      both_kept FlatExpr (List Statement) Branch (IsExpression objects p spot.parameters t.Boolean) (BodyIs objects p (way_to spot i k) 0 d.drivers inner.0.drivers)
      (BranchIs objects p spot.path spot.parameters i k d.drivers inner.0.drivers) made_branch
      (λ e body h g. record { condition = h; places = body_places objects p (way_to spot i k) d.drivers inner.0.drivers body g; drivers = g.drivers }) c.1 inner.1
      (read.right (stands_before objects p (with_notes c.0 d) inner.0 goes stands).room) (bodies all is scope (way_to spot i k) 0 (with_notes c.0 d) here parameters stands)

  branches_stand : (all : List BranchPart) → all_true (map (fold-Branch Bool Bool Bool written_step alternative_written branch_written) (branches_of all)) ≡ true
      → (scope : Scope) (spot : Spot) (i k : ℕ) (d : Draft) → Here spot.parameters scope → AreParameters d.variables spot.parameters → StandsIn objects p (branches (branch_readings all) scope spot i k d).0
      → OnKept (BranchesAre objects p spot.path spot.parameters i k (length (branch_readings all)) d.drivers (branches (branch_readings all) scope spot i k d).0.drivers) (branches (branch_readings all) scope spot i k d).1
  branches_stand [] is scope spot i k d here parameters stands = no_branches objects p spot.path spot.parameters i k d.drivers
  branches_stand (q ∷ more) is scope spot i k d here parameters stands =
      let written = fold-Branch Bool Bool Bool written_step alternative_written branch_written in
      let first = branch_of w q.0 scope (way_to spot i k) d in
      let rest = branches (branch_readings more) scope spot i (k + 1) first.0 in
      both_kept Branch (List Branch) (List Branch) (BranchIs objects p spot.path spot.parameters i k d.drivers first.0.drivers)
      (BranchesAre objects p spot.path spot.parameters i (k + 1) (length (branch_readings more)) first.0.drivers rest.0.drivers)
      (BranchesAre objects p spot.path spot.parameters i k (suc (length (branch_readings more))) d.drivers rest.0.drivers) ahead
      (λ arm arms h g. more_branches objects p spot.path spot.parameters i k (length (branch_readings more)) d.drivers first.0.drivers rest.0.drivers arm arms h g) first.1 rest.1
      (q.1 (and_left (written q.0) (all_true (map written (branches_of more))) is) scope spot i k d here parameters
      (stands_before objects p first.0 rest.0 (branches_of_grow w (branches_of more) scope spot i (k + 1) first.0) stands))
      (branches_stand more (and_right (written q.0) (all_true (map written (branches_of more))) is) scope spot i (k + 1) first.0 here
      (parameters_on d.variables first.0.variables spot.parameters (branch_of_grows w q.0 scope (way_to spot i k) d).variables parameters) stands)

  abbrev last_readings : Option (List SeqPart) → Option (List (Reads Statement))
  last_readings None = None
  last_readings (Some all) = Some (readings all)

  abbrev last_written : Option (List SeqPart) → Option (List Bool)
  last_written None = None
  last_written (Some all) = Some (map is_written (seqs_of all))

  otherwise_stands : (all : Option (List SeqPart)) → all_true_in (last_written all) ≡ true → (scope : Scope) (spot : Spot) (d : Draft) → Here spot.parameters scope → AreParameters d.variables spot.parameters
      → StandsIn objects p (otherwise (last_readings all) scope spot d).0
      → OnKept (BodyIs objects p spot 0 d.drivers (otherwise (last_readings all) scope spot d).0.drivers) (otherwise (last_readings all) scope spot d).1
  otherwise_stands None is scope spot d here parameters stands = body_none objects p spot 0 d.drivers
  otherwise_stands (Some all) is scope spot d here parameters stands = bodies all is scope spot 0 d here parameters stands

  abbrev last_seqs : Option (List SeqPart) → Option (List Seq)
  last_seqs None = None
  last_seqs (Some all) = Some (seqs_of all)

  last_grows : (last : Option (List SeqPart)) (scope : Scope) (spot : Spot) (d : Draft) → DraftGrows d (otherwise (last_readings last) scope spot d).0
  last_grows None scope spot d = draft_same d
  last_grows (Some all) scope spot d = all_grow w (seqs_of all) scope spot 0 d

  -- the draft before the notes of a whole
  inner_stands : (A : Type 0) (place : Place) (part : Part A) (d : Draft) → StandsIn objects p (with_notes (closed place part d.notes) d) → StandsIn objects p d
  inner_stands A place part d stands = stands_before objects p d (with_notes (closed place part d.notes) d) (draft_notes d (closed place part d.notes) (grows_closed A place part d.notes)) stands

  if_stands : (place : Place) (all : List BranchPart) (last : Option (List SeqPart)) → all_true (map (fold-Branch Bool Bool Bool written_step alternative_written branch_written) (branches_of all)) ≡ true
      → all_true_in (last_written last) ≡ true → SeqReadsStand (seq_step w (Seq-F.If place (branch_readings all) (last_readings last)))
  if_stands place all last is also scope spot i d here parameters stands =
      let first = branches (branch_readings all) scope spot i 0 d in
      let spot_last = way_to spot i (length (branch_readings all)) in
      let rest = otherwise (last_readings last) scope spot_last first.0 in
      let inner : StandsIn objects p rest.0 = inner_stands Statement place (both made_if first.1 rest.1) rest.0 stands in
      sealed_kept Statement (StatementIs objects p spot i d.drivers rest.0.drivers) (both made_if first.1 rest.1)
      (both_kept (List Branch) (List Statement) Statement (BranchesAre objects p spot.path spot.parameters i 0 (length (branch_readings all)) d.drivers first.0.drivers)
      (BodyIs objects p spot_last 0 first.0.drivers rest.0.drivers) (StatementIs objects p spot i d.drivers rest.0.drivers) made_if
      (λ arms other h g.
      if_is objects p spot i (length (branch_readings all)) d.drivers first.0.drivers rest.0.drivers (statement.If arms other) arms other (opens_as (statement.If arms other) (Statement-F.If arms other) (rolls-If arms other)) h
      (body_places objects p spot_last first.0.drivers rest.0.drivers other g) g.drivers)
      first.1 rest.1
      (branches_stand all is scope spot i 0 d here parameters (stands_before objects p first.0 rest.0 (last_grows last scope spot_last first.0) inner))
      (otherwise_stands last also scope spot_last first.0 here
      (parameters_on d.variables first.0.variables spot.parameters (branches_of_grow w (branches_of all) scope spot i 0 d).variables parameters) inner))

  -- ---- alternatives

  alternative_stands : (cs : List Choice) (all : List SeqPart) → all_true (map is_written (seqs_of all)) ≡ true → CaseReadsStand (alternative_step w (record { choices = cs; body = readings all }))
  alternative_stands cs all is scope spot i b k seen d here parameters stands =
      let c = choices w scope (static_in running) k seen cs d.notes in
      let inner = body (readings all) scope (way_to spot i b) 0 (with_notes c.0 d) in
      both_kept Bool (List Statement) Alternative (λ (x : Bool). Unit {0}) (BodyIs objects p (way_to spot i b) 0 d.drivers inner.0.drivers)
      (AlternativeIs objects p spot.path spot.parameters i b d.drivers inner.0.drivers) (made_alternative seen c.1.0)
      (λ fine body h g. record { places = body_places objects p (way_to spot i b) d.drivers inner.0.drivers body g; drivers = g.drivers }) c.1.1 inner.1
      (any_part Bool c.1.1) (bodies all is scope (way_to spot i b) 0 (with_notes c.0 d) here parameters stands)

  alternatives_stand : (all : List AlternativePart) → all_true (map (fold-Alternative Bool Bool Bool written_step alternative_written branch_written) (alternatives_of all)) ≡ true
      → (scope : Scope) (spot : Spot) (i b : ℕ) (k : Option Kind) (seen : Seen) (d : Draft) → Here spot.parameters scope → AreParameters d.variables spot.parameters
      → StandsIn objects p (alternatives (case_readings all) scope spot i b k seen d).0
      → OnKept (AlternativesAre objects p spot.path spot.parameters i b d.drivers (alternatives (case_readings all) scope spot i b k seen d).0.drivers) (alternatives (case_readings all) scope spot i b k seen d).1.1
  alternatives_stand [] is scope spot i b k seen d here parameters stands = no_alternatives objects p spot.path spot.parameters i b d.drivers
  alternatives_stand (q ∷ more) is scope spot i b k seen d here parameters stands =
      let written = fold-Alternative Bool Bool Bool written_step alternative_written branch_written in
      let first = alternative_of w q.0 scope (way_to spot i b) k seen d in
      let rest = alternatives (case_readings more) scope spot i (b + 1) k first.1.0 first.0 in
      both_kept Alternative (List Alternative) (List Alternative) (AlternativeIs objects p spot.path spot.parameters i b d.drivers first.0.drivers)
      (AlternativesAre objects p spot.path spot.parameters i (b + 1) first.0.drivers rest.0.drivers) (AlternativesAre objects p spot.path spot.parameters i b d.drivers rest.0.drivers) ahead
      (λ arm arms h g. more_alternatives objects p spot.path spot.parameters i b d.drivers first.0.drivers rest.0.drivers arm arms h g) first.1.1 rest.1.1
      (q.1 (and_left (written q.0) (all_true (map written (alternatives_of more))) is) scope spot i b k seen d here parameters
      (stands_before objects p first.0 rest.0 (alternatives_of_grow w (alternatives_of more) scope spot i (b + 1) k first.1.0 first.0) stands))
      (alternatives_stand more (and_right (written q.0) (all_true (map written (alternatives_of more))) is) scope spot i (b + 1) k first.1.0 first.0 here
      (parameters_on d.variables first.0.variables spot.parameters (alternative_of_grows w q.0 scope (way_to spot i b) k seen d).variables parameters) stands)

  -- what is found for an expression of a kind that is known
  abbrev CaseFound : Scope → Spot → ℕ → List AlternativePart → Draft → Option Kind → Draft × (Seen × Part (List Alternative))
  CaseFound scope spot i all d k = alternatives (case_readings all) scope spot i 0 k nothing_seen d

  under : (A C : Type 0) (R : A → Type 0) (q : Part A) → (C → OnKept R q) → OnKept (λ (a : A). C → R a) q
  under A C R (Kept a) h = h
  under A C R Wrong h = tt
  under A C R Hidden h = tt

  abbrev HasChoices : ValueType → List Alternative → Type 0
  HasChoices k arms = AreChoices (sizes_of objects) k (flat_map (λ (a : Alternative). (out-Alternative a).choices) arms) (map (λ (a : Alternative). (out-Alternative a).others) arms)

  case_kind : (scope : Scope) (spot : Spot) (i : ℕ) (all : List AlternativePart) (d : Draft) (k : Kind) (y : Expr) (n : Notes) (x : Typed) → Here spot.parameters scope → (typed w scope running y n).1 ≡ Kept x → x.kind ≡ k
      → HasNoFaults (CaseFound scope spot i all d (Some k)).0.notes
      → HasKind (process_scope objects p) x.expr k → All (IsVisible p.variables spot.parameters) (variables_named x.expr)
      → OnKept (AlternativesAre objects p spot.path spot.parameters i 0 d.drivers (CaseFound scope spot i all d (Some k)).0.drivers) (CaseFound scope spot i all d (Some k)).1.1
      → OnKept (StatementIs objects p spot i d.drivers (CaseFound scope spot i all d (Some k)).0.drivers) (judged (made_case w (CaseFound scope spot i all d (Some k)).1.0 x) (CaseFound scope spot i all d (Some k)).1.1)
  case_kind scope spot i all d (Of k) y n x here found_is is none has_type visible h =
      let found = CaseFound scope spot i all d (Some (Of k)) in
      let Covers : Type 0 = covers w.enumerations (Of k) found.1.0 ≡ true in
      let fit : OnKept (λ (arms : List Alternative). Covers → HasChoices k arms) found.1.1 =
      under (List Alternative) Covers (HasChoices k) found.1.1 (λ c. around.cases spot.parameters scope spot i k y n x (alternatives_of all) d here found_is is none c) in
      let both_of : OnKept (λ (arms : List Alternative). AlternativesAre objects p spot.path spot.parameters i 0 d.drivers found.0.drivers arms × (Covers → HasChoices k arms)) found.1.1 =
      together (List Alternative) (AlternativesAre objects p spot.path spot.parameters i 0 d.drivers found.0.drivers) (λ (arms : List Alternative). Covers → HasChoices k arms)
      (λ (arms : List Alternative). AlternativesAre objects p spot.path spot.parameters i 0 d.drivers found.0.drivers arms × (Covers → HasChoices k arms)) (λ a l r. (l, r)) found.1.1 h fit in
      judged_kept (List Alternative) Statement (λ (arms : List Alternative). AlternativesAre objects p spot.path spot.parameters i 0 d.drivers found.0.drivers arms × (Covers → HasChoices k arms))
      (StatementIs objects p spot i d.drivers found.0.drivers) (made_case w found.1.0 x)
      (λ arms g.
      where_kept Statement (StatementIs objects p spot i d.drivers found.0.drivers) (covers w.enumerations x.kind found.1.0) (statement.Case x.expr arms)
      (λ c.
      case_is objects p spot i d.drivers found.0.drivers (statement.Case x.expr arms) (Statement-F.Case x.expr arms) arms (opens_as (statement.Case x.expr arms) (Statement-F.Case x.expr arms) (rolls-Case x.expr arms))
      (record {
        kind = k;
        typed = record { typed = has_type; visible = visible };
        choices = g.1 (subst (λ (z : Kind). covers w.enumerations z found.1.0 ≡ true) is c);
      })
      tt tt tt refl (λ b. refl) (λ b lt. lt) (λ b lt. lt) g.0))
      found.1.1 both_of
  case_kind scope spot i all d Vector y n x here found_is is none has_type visible h = absurd has_type

  case_made : (scope : Scope) (spot : Spot) (i : ℕ) (all : List AlternativePart) (d : Draft) (y : Expr) (n : Notes) (e : Part Typed) → Here spot.parameters scope → (typed w scope running y n).1 ≡ e
      → HasNoFaults (CaseFound scope spot i all d (kind_known e)).0.notes
      → OnKept (IsRead (process_scope objects p) (IsVisible p.variables spot.parameters)) e
      → OnKept (AlternativesAre objects p spot.path spot.parameters i 0 d.drivers (CaseFound scope spot i all d (kind_known e)).0.drivers) (CaseFound scope spot i all d (kind_known e)).1.1
      → OnKept (StatementIs objects p spot i d.drivers (CaseFound scope spot i all d (kind_known e)).0.drivers)
      (both (made_case w (CaseFound scope spot i all d (kind_known e)).1.0) e (CaseFound scope spot i all d (kind_known e)).1.1)
  case_made scope spot i all d y n (Kept x) here is none h g = case_kind scope spot i all d x.kind y n x here is refl none h.typed h.visible g
  case_made scope spot i all d y n Wrong here is none h g =
      never_kept Typed (List Alternative) Statement (StatementIs objects p spot i d.drivers (CaseFound scope spot i all d None).0.drivers) (made_case w (CaseFound scope spot i all d None).1.0)
      (CaseFound scope spot i all d None).1.1
  case_made scope spot i all d y n Hidden here is none h g = tt

  case_stands : (place : Place) (x : Expr) (all : List AlternativePart) → all_true (map (fold-Alternative Bool Bool Bool written_step alternative_written branch_written) (alternatives_of all)) ≡ true
      → SeqReadsStand (seq_step w (Seq-F.Case place x (case_readings all)))
  case_stands place x all is scope spot i d here parameters stands =
      let e = typed w scope running x d.notes in
      let a = with_notes e.0 d in
      let found = CaseFound scope spot i all a (kind_known e.1) in
      let made = both (made_case w found.1.0) e.1 found.1.1 in
      let inner : StandsIn objects p found.0 = inner_stands Statement place made found.0 stands in
      let read : KeepsPart Typed Room (IsRead (process_scope objects p) (IsVisible p.variables spot.parameters)) d.notes e =
      typed_keeps (process_scope objects p) (IsVisible p.variables spot.parameters) w scope here.holds.fits running x d.notes in
      let goes : DraftGrows a found.0 = alternatives_of_grow w (alternatives_of all) scope spot i 0 (kind_known e.1) nothing_seen a in
      sealed_kept Statement (StatementIs objects p spot i d.drivers found.0.drivers) made
      (case_made scope spot i all a x d.notes e.1 here refl inner.faults (read.right (stands_before objects p a found.0 goes inner).room)
      (alternatives_stand all is scope spot i 0 (kind_known e.1) nothing_seen a here parameters inner))

  -- ---- loops

  plain_loop : (spot : Spot) (i : ℕ) (before after : List ℕ) (c : Option FlatExpr) (all : List Statement) → MayBe objects p spot.parameters t.Boolean c
      → BodyIs objects p (looping spot i) 0 before after all → StatementIs objects p spot i before after (statement.Loop c all)
  plain_loop spot i before after c all may h =
      loop_is objects p spot i before after (statement.Loop c all) (Statement-F.Loop c all) all (opens_as (statement.Loop c all) (Statement-F.Loop c all) (rolls-Loop c all)) may tt tt tt
      (λ b. refl) (λ b is. is) refl (without objects p spot.path spot.parameters i 0 all (body_places objects p (looping spot i) before after all h)) h.drivers

  loop_stands : (how : Iteration) (all : List SeqPart) → all_true (map is_written (seqs_of all)) ≡ true
      → (scope : Scope) (spot : Spot) (i : ℕ) (d : Draft) → Here spot.parameters scope → AreParameters d.variables spot.parameters → StandsIn objects p (loop_statement w how (readings all) scope spot i d).0
      → OnKept (StatementIs objects p spot i d.drivers (loop_statement w how (readings all) scope spot i d).0.drivers) (loop_statement w how (readings all) scope spot i d).1
  loop_stands iteration.Endless all is scope spot i d here parameters stands =
      let inner = body (readings all) scope (looping spot i) 0 d in
      judged_kept (List Statement) Statement (BodyIs objects p (looping spot i) 0 d.drivers inner.0.drivers) (StatementIs objects p spot i d.drivers inner.0.drivers) (made_loop None)
      (λ body h. plain_loop spot i d.drivers inner.0.drivers None body tt h) inner.1 (bodies all is scope (looping spot i) 0 d here parameters stands)
  loop_stands (iteration.While x) all is scope spot i d here parameters stands =
      let c = must_be w scope running (Of t.Boolean) x d.notes in
      let a = with_notes c.0 d in
      let inner = body (readings all) scope (looping spot i) 0 a in
      let read : KeepsPart FlatExpr Room (IsExpression objects p spot.parameters t.Boolean) d.notes c = process_parts_fit.must objects p spot.parameters w scope running t.Boolean x d.notes here.holds.fits in
      let goes : DraftGrows a inner.0 = all_grow w (seqs_of all) scope (looping spot i) 0 a in
      both_kept (Option FlatExpr) (List Statement) Statement (MayBe objects p spot.parameters t.Boolean) (BodyIs objects p (looping spot i) 0 d.drivers inner.0.drivers)
      (StatementIs objects p spot i d.drivers inner.0.drivers) made_loop (λ o body m h. plain_loop spot i d.drivers inner.0.drivers o body m h) (judged given c.1) inner.1
      (judged_kept FlatExpr (Option FlatExpr) (IsExpression objects p spot.parameters t.Boolean) (MayBe objects p spot.parameters t.Boolean) given (λ e h. h) c.1
      (read.right (stands_before objects p a inner.0 goes stands).room))
      (bodies all is scope (looping spot i) 0 a here parameters stands)
  loop_stands (iteration.For x range) all is scope spot i d here parameters stands =
      let left = must_be w scope running (Of t.Integer) range.left d.notes in
      let right = must_be w scope running (Of t.Integer) range.right left.0 in
      let n = length d.variables in
      let a = with_notes right.0 d in
      let b = with_parameter w.texts x a in
      let inside_scope = with_name (inside scope) x.number (thing.Parameter n) in
      let inner = body (readings all) inside_scope (within_loop spot i n) 0 b in
      let v : Variable = parameter_of x in
      let at_b : StandsIn objects p b = stands_before objects p b inner.0 (all_grow w (seqs_of all) inside_scope (within_loop spot i n) 0 b) stands in
      let at : slice_get p.variables n ≡ Some v = end_at Variable d.variables p.variables v at_b.variables in
      let below : n < length p.variables = end_below Variable d.variables p.variables v at_b.variables in
      let own : list_any (nat_eq n) spot.parameters ≡ false = false_unless (list_any (nat_eq n) spot.parameters) (next_is_new d.variables spot.parameters parameters) in
      let first : KeepsPart FlatExpr Room (IsExpression objects p spot.parameters t.Integer) d.notes left =
      process_parts_fit.must objects p spot.parameters w scope running t.Integer range.left d.notes here.holds.fits in
      let second : KeepsPart FlatExpr Room (IsExpression objects p spot.parameters t.Integer) left.0 right =
      process_parts_fit.must objects p spot.parameters w scope running t.Integer range.right left.0 here.holds.fits in
      both_kept (FlatExpr × FlatExpr) (List Statement) Statement (λ (bounds : FlatExpr × FlatExpr). IsExpression objects p spot.parameters t.Integer bounds.0 × IsExpression objects p spot.parameters t.Integer bounds.1)
      (BodyIs objects p (within_loop spot i n) 0 d.drivers inner.0.drivers) (StatementIs objects p spot i d.drivers inner.0.drivers) (made_for n range.direction)
      (λ bounds body h g. for_is spot i d.drivers inner.0.drivers n v bounds range.direction body at refl refl below own h.0 h.1 g)
      (both paired left.1 right.1) inner.1
      (both_kept FlatExpr FlatExpr (FlatExpr × FlatExpr) (IsExpression objects p spot.parameters t.Integer) (IsExpression objects p spot.parameters t.Integer)
      (λ (bounds : FlatExpr × FlatExpr). IsExpression objects p spot.parameters t.Integer bounds.0 × IsExpression objects p spot.parameters t.Integer bounds.1) paired (λ l r h g. (h, g)) left.1 right.1
      (first.right (room_before (process_scope objects p) left.0 right.0 second.grows at_b.room)) (second.right at_b.room))
      (bodies all is inside_scope (within_loop spot i n) 0 b (scope_in_loop objects p spot.parameters w Also scope n x.number v at refl (around.parameters n) here)
      (parameters_more d.variables v spot.parameters refl parameters) stands)
    where
      parameter_of : Name → Variable
      parameter_of y = record { name = text_of w.texts y.number; kind = t.Integer; constraint = Whole; initial = val.Int (pos 0); is_parameter = true }

      for_is : (spot : Spot) (i : ℕ) (before after : List ℕ) (n : ℕ) (v : Variable) (bounds : FlatExpr × FlatExpr) (way : Direction) (body : List Statement) → slice_get p.variables n ≡ Some v
          → v.is_parameter ≡ true → v.kind ≡ t.Integer → n < length p.variables → list_any (nat_eq n) spot.parameters ≡ false
          → IsExpression objects p spot.parameters t.Integer bounds.0 → IsExpression objects p spot.parameters t.Integer bounds.1
          → BodyIs objects p (within_loop spot i n) 0 before after body → StatementIs objects p spot i before after (statement.For n bounds.0 (direction_of way) bounds.1 body)
      for_is spot i before after n v bounds way body at is kind below own l r g =
          loop_is objects p spot i before after (statement.For n bounds.0 (direction_of way) bounds.1 body) (Statement-F.For n bounds.0 (direction_of way) bounds.1 body) body
          (opens_as (statement.For n bounds.0 (direction_of way) bounds.1 body) (Statement-F.For n bounds.0 (direction_of way) bounds.1 body) (rolls-For n bounds.0 (direction_of way) bounds.1 body))
          (record { parameter = v; parameter_is = at; is_parameter = is; kind_is = kind; begins = l; ends = r }) tt below own (λ b. refl) (λ b e. e) refl
          (body_places objects p (within_loop spot i n) before after body g) g.drivers

  -- ---- the induction

  abbrev seq_of : Seq-F SeqPart AlternativePart BranchPart → Seq
  seq_of y = roll-Seq (map-Seq SeqPart AlternativePart BranchPart Seq WrittenAlternative WrittenBranch (λ q. q.0) (λ q. q.0) (λ q. q.0) y)

  opened : (y : Seq-F Seq WrittenAlternative WrittenBranch)
      → statement_of w (roll-Seq y) ≡ seq_step w (map-Seq Seq WrittenAlternative WrittenBranch (Reads Statement) CaseReads BranchReads (statement_of w) (alternative_of w) (branch_of w) y)
  opened y = fold-roll-Seq (Reads Statement) CaseReads BranchReads (seq_step w) (alternative_step w) (branch_step w) y

  abbrev WrittenAs : Seq-F Seq WrittenAlternative WrittenBranch → Bool
  WrittenAs y =
      written_step (map-Seq Seq WrittenAlternative WrittenBranch Bool Bool Bool is_written (fold-Alternative Bool Bool Bool written_step alternative_written branch_written) (fold-Branch Bool Bool Bool written_step alternative_written branch_written) y)

  written_as : (y : Seq-F Seq WrittenAlternative WrittenBranch) → is_written (roll-Seq y) ≡ WrittenAs y
  written_as y = fold-roll-Seq Bool Bool Bool written_step alternative_written branch_written y

  lift : (y : Seq-F Seq WrittenAlternative WrittenBranch) (f : Reads Statement) → statement_of w (roll-Seq y) ≡ f → (WrittenAs y ≡ true → SeqReadsStand f) → SeqStands (roll-Seq y)
  lift y f e h is = subst SeqReadsStand (sym e) (h (sym (written_as y) ∙ is))

  if_step : (place : Place) (all : List BranchPart) (last : Option (List SeqPart)) → SeqStands (seq_of (Seq-F.If place all last))
  if_step place all None =
      lift (Seq-F.If place (branches_of all) None) (seq_step w (Seq-F.If place (branch_readings all) None)) (opened (Seq-F.If place (branches_of all) None))
      (λ is. if_stands place all None (and_left (all_true (map (fold-Branch Bool Bool Bool written_step alternative_written branch_written) (branches_of all))) true is) refl)
  if_step place all (Some last) =
      lift (Seq-F.If place (branches_of all) (Some (seqs_of last))) (seq_step w (Seq-F.If place (branch_readings all) (last_readings (Some last)))) (opened (Seq-F.If place (branches_of all) (Some (seqs_of last))))
      (λ is.
      if_stands place all (Some last) (and_left (all_true (map (fold-Branch Bool Bool Bool written_step alternative_written branch_written) (branches_of all))) (all_true (map is_written (seqs_of last))) is)
      (and_right (all_true (map (fold-Branch Bool Bool Bool written_step alternative_written branch_written) (branches_of all))) (all_true (map is_written (seqs_of last))) is))

  seq_steps : (y : Seq-F SeqPart AlternativePart BranchPart) → SeqStands (seq_of y)
  seq_steps (Seq-F.Signal x delay wave) =
      lift (Seq-F.Signal x delay wave) (seq_step w (Seq-F.Signal x delay wave)) (opened (Seq-F.Signal x delay wave))
      (λ is scope spot i d here parameters stands. signal_is objects p w Also scope spot i here x delay wave d (is_less 0 (length wave) is) parameters stands)
  seq_steps (Seq-F.Variable x value) =
      lift (Seq-F.Variable x value) (seq_step w (Seq-F.Variable x value)) (opened (Seq-F.Variable x value))
      (λ is scope spot i d here parameters stands. variable_is objects p w Also scope spot i here x.place x value d parameters stands)
  seq_steps (Seq-F.If place all last) = if_step place all last
  seq_steps (Seq-F.Case place x all) =
      lift (Seq-F.Case place x (alternatives_of all)) (seq_step w (Seq-F.Case place x (case_readings all))) (opened (Seq-F.Case place x (alternatives_of all)))
      (λ is. case_stands place x all (and_right (has_some (map (fold-Alternative Bool Bool Bool written_step alternative_written branch_written) (alternatives_of all))) (all_true (map (fold-Alternative Bool Bool Bool written_step alternative_written branch_written) (alternatives_of all))) is))
  seq_steps (Seq-F.Loop place how all) =
      lift (Seq-F.Loop place how (seqs_of all)) (seq_step w (Seq-F.Loop place how (readings all))) (opened (Seq-F.Loop place how (seqs_of all)))
      (λ is scope spot i d here parameters stands.
      let found = loop_statement w how (readings all) scope spot i d in
      sealed_kept Statement (StatementIs objects p spot i d.drivers found.0.drivers) found.1 (loop_stands how all is scope spot i d here parameters (inner_stands Statement place found.1 found.0 stands)))
  seq_steps (Seq-F.Exit place x) =
      lift (Seq-F.Exit place x) (seq_step w (Seq-F.Exit place x)) (opened (Seq-F.Exit place x))
      (λ is scope spot i d here parameters stands. exit_is objects p w Also scope spot i here place x d parameters stands)
  seq_steps (Seq-F.Next place x) =
      lift (Seq-F.Next place x) (seq_step w (Seq-F.Next place x)) (opened (Seq-F.Next place x))
      (λ is scope spot i d here parameters stands. next_is objects p w Also scope spot i here place x d parameters stands)
  seq_steps (Seq-F.Wait place names until time) =
      lift (Seq-F.Wait place names until time) (seq_step w (Seq-F.Wait place names until time)) (opened (Seq-F.Wait place names until time))
      (λ is scope spot i d here parameters stands. wait_is objects p w Also scope spot i here place names until time d stands)
  seq_steps (Seq-F.Assert a) =
      lift (Seq-F.Assert a) (seq_step w (Seq-F.Assert a)) (opened (Seq-F.Assert a))
      (λ is scope spot i d here parameters stands. assertion_is objects p w Also scope spot i here around.texts a d parameters stands)
  seq_steps (Seq-F.Report place r) =
      lift (Seq-F.Report place r) (seq_step w (Seq-F.Report place r)) (opened (Seq-F.Report place r))
      (λ is scope spot i d here parameters stands. report_is objects p w Also scope spot i here around.texts place r d parameters stands)
  seq_steps (Seq-F.Break place elements x) =
      lift (Seq-F.Break place elements x) (seq_step w (Seq-F.Break place elements x)) (opened (Seq-F.Break place elements x))
      (λ is scope spot i d here parameters stands. break_is objects p w Also scope spot i here place elements x d parameters stands)
  seq_steps (Seq-F.Null place) =
      lift (Seq-F.Null place) (seq_step w (Seq-F.Null place)) (opened (Seq-F.Null place))
      (λ is scope spot i d here parameters stands. null_is objects p w Also scope spot i here d parameters stands)

  abbrev alternative_at : Alternative-F SeqPart AlternativePart BranchPart → WrittenAlternative
  alternative_at y = roll-Alternative (map-Alternative SeqPart AlternativePart BranchPart Seq WrittenAlternative WrittenBranch (λ q. q.0) (λ q. q.0) (λ q. q.0) y)

  alternative_steps : (y : Alternative-F SeqPart AlternativePart BranchPart) → AlternativeStands (alternative_at y)
  alternative_steps y is =
      subst CaseReadsStand (sym (fold-roll-Alternative (Reads Statement) CaseReads BranchReads (seq_step w) (alternative_step w) (branch_step w) (record { choices = y.choices; body = seqs_of y.body })))
      (alternative_stands y.choices y.body
      (and_right (has_some y.choices) (all_true (map is_written (seqs_of y.body)))
      (sym (fold-roll-Alternative Bool Bool Bool written_step alternative_written branch_written (record { choices = y.choices; body = seqs_of y.body })) ∙ is)))

  abbrev branch_at : Branch-F SeqPart AlternativePart BranchPart → WrittenBranch
  branch_at y = roll-Branch (map-Branch SeqPart AlternativePart BranchPart Seq WrittenAlternative WrittenBranch (λ q. q.0) (λ q. q.0) (λ q. q.0) y)

  branch_steps : (y : Branch-F SeqPart AlternativePart BranchPart) → BranchStands (branch_at y)
  branch_steps y is =
      subst BranchReadsStand (sym (fold-roll-Branch (Reads Statement) CaseReads BranchReads (seq_step w) (alternative_step w) (branch_step w) (record { condition = y.condition; body = seqs_of y.body })))
      (branch_stands y.condition y.body (sym (fold-roll-Branch Bool Bool Bool written_step alternative_written branch_written (record { condition = y.condition; body = seqs_of y.body })) ∙ is))

  pub statement_stands : (s : Seq) → SeqStands s
  statement_stands =
      ind-Seq SeqStands AlternativeStands BranchStands
      (λ x y is. subst (λ (z : Seq-F Seq WrittenAlternative WrittenBranch). SeqStands (roll-Seq z)) is (seq_steps y))
      (λ x y is. subst (λ (z : Alternative-F Seq WrittenAlternative WrittenBranch). AlternativeStands (roll-Alternative z)) is (alternative_steps y))
      (λ x y is. subst (λ (z : Branch-F Seq WrittenAlternative WrittenBranch). BranchStands (roll-Branch z)) is (branch_steps y))

  pub all_stand : (all : List Seq) → AreWritten all → (scope : Scope) (spot : Spot) (i : ℕ) (d : Draft) → Here spot.parameters scope → AreParameters d.variables spot.parameters
      → StandsIn objects p (body (map (statement_of w) all) scope spot i d).0
      → OnKept (BodyIs objects p spot i d.drivers (body (map (statement_of w) all) scope spot i d).0.drivers) (body (map (statement_of w) all) scope spot i d).1
  all_stand [] is scope spot i d here parameters stands = body_none objects p spot i d.drivers
  all_stand (s ∷ more) is scope spot i d here parameters stands =
      let first = statement_of w s scope spot i d in
      let rest = body (map (statement_of w) more) scope spot (i + 1) first.0 in
      both_kept Statement (List Statement) (List Statement) (StatementIs objects p spot i d.drivers first.0.drivers) (BodyIs objects p spot (i + 1) first.0.drivers rest.0.drivers)
      (BodyIs objects p spot i d.drivers rest.0.drivers) ahead (λ a all h g. body_first objects p spot i d.drivers first.0.drivers rest.0.drivers a all h g) first.1 rest.1
      (statement_stands s (is 0 s (omega arith)) scope spot i d here parameters (stands_before objects p first.0 rest.0 (all_grow w more scope spot (i + 1) first.0) stands))
      (all_stand more (λ k e lt. is (suc k) e (omega arith)) scope spot (i + 1) first.0 here
      (parameters_on d.variables first.0.variables spot.parameters (statement_grows w s scope spot i d).variables parameters) stands)

pub bodies_stand : BodiesStand
bodies_stand objects p w Also around all is scope spot i d here parameters stands = all_stand objects p w Also around all is scope spot i d here parameters stands
