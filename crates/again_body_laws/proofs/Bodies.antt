-- Sequential statements, read twice, by induction on the tree.
use Rattle.std.proofs.Common.{◌≡◌, ℕ, ◌+◌, Bool, List, [], ◌∷◌, ◌++◌, length, map, Option, Some, None, refl, sym, ap, ◌∙◌, subst}
use Rattle.ams_token.specs.declared.token.Place.{Place}
use Rattle.ams_tree.specs.declared.expression.Name.{Name}
use Rattle.ams_tree.specs.declared.expression.Expr.{Expr}
use Rattle.ams_tree.specs.declared.sequential.Alternative.{Alternative as WrittenAlternative}
use Rattle.ams_tree.specs.declared.sequential.Branch.{Branch as WrittenBranch}
use Rattle.ams_tree.specs.declared.sequential.Choice.{Choice}
use Rattle.ams_tree.specs.declared.sequential.DelayMechanism.{DelayMechanism}
use Rattle.ams_tree.specs.declared.sequential.Iteration.{Iteration}
use Rattle.ams_tree.specs.declared.sequential.Iteration.TheVariants as iteration
use Rattle.ams_tree.specs.declared.sequential.Seq.{Seq}
use Rattle.ams_tree.specs.declared.sequential.Seq.TheOpen.{Branch-F, Alternative-F, Seq-F}
use Rattle.ams_tree.specs.declared.sequential.Seq.TheViews.{roll-Seq, roll-Alternative, roll-Branch}
use Rattle.ams_tree.specs.declared.sequential.Seq.TheFolds.{map-Seq, map-Alternative, map-Branch, fold-Alternative, fold-Branch, fold-roll-Seq, fold-roll-Alternative, fold-roll-Branch, ind-Seq}
use Rattle.ams_tree.specs.declared.sequential.WaveformElement.{WaveformElement}
use Rattle.ams_value.specs.declared.value_type.ValueType.TheVariants as t
use Rattle.flat_expr.specs.declared.statement.Statement.{Statement}
use Rattle.flat_design.specs.declared.objects.Variable.{Variable}
use Rattle.name_scope.specs.declared.thing.Kind.{Kind}
use Rattle.name_scope.specs.declared.thing.Kind.TheVariants.{Of}
use Rattle.name_scope.specs.declared.thing.Subtype.{Subtype}
use Rattle.name_scope.specs.declared.thing.Thing.TheVariants as thing
use Rattle.name_scope.specs.declared.scope.Scope.{Scope}
use Rattle.name_scope.specs.Scopes.{inside, with_name}
use Rattle.elab_meaning.specs.declared.part.Part.{Part}
use Rattle.elab_meaning.specs.Expressions.{static_in}
use Rattle.elab_meaning.specs.Parts.{judged, both}
use Rattle.unit_meaning.specs.declared.draft.Draft.{Draft}
use Rattle.unit_meaning.specs.declared.draft.Seen.{Seen}
use Rattle.unit_meaning.specs.declared.draft.Spot.{Spot}
use Rattle.unit_meaning.specs.Settings.{Setting, running, typed, must_be, given, paired, ahead}
use Rattle.unit_meaning.specs.Waveforms.{target, assignment}
use Rattle.unit_meaning.specs.Cases.{choices, nothing_seen, covers}
use Rattle.unit_meaning.specs.Sequential.{with_notes, with_parameter, with_wait, way_to, looping, within_loop, variable_assignment, break_statement, leaving, wait_statement, assertion, report, made_branch, made_if, made_alternative, made_case, made_loop, made_for, Reads, CaseReads, BranchReads, body, branch_step, branches, otherwise, alternative_step, alternatives, kind_known, loop_statement, driving, signal_statement, seq_step, statement_of}
use Rattle.flat_expr.specs.declared.expr.FlatExpr.{FlatExpr}
use Rattle.flat_expr.specs.declared.statement.Alternative.{Alternative}
use Rattle.flat_expr.specs.declared.statement.Branch.{Branch}
use Rattle.flat_expr.specs.declared.statement.Statement.TheVariants as statement
use Rattle.elab_meaning.specs.declared.typed.Typed.{Typed}
use Rattle.again_laws.proofs.Breaks.{breaks_same, breaks_on}
use Rattle.again_laws.proofs.Steps.{LikeTyped}
use Rattle.again_part_laws.proofs.Like.{Any, Same, Formed, like_self, like_equal, equal_like, judged_like, both_like, formed_where, ReadsAs}
use Rattle.again_part_laws.proofs.Parts.{typed_as, must_as, target_as}
use Rattle.again_part_laws.proofs.Statements.{same_known, ChoosesAs, choices_as}
use Rattle.again_body_laws.specs.Bodies.{BodiesBreakAlike}
use Rattle.again_body_laws.proofs.Leaves.{DraftsAs, CasesAs, driving_variables, simple_as, whole_as, assignment_as, variable_as, wait_as, break_as, leaving_as, assert_as}

same_before : (xs ys more : List Variable) → xs ≡ ys → xs ++ more ≡ ys ++ more
same_before xs ys more is = ap (λ (l : List Variable). l ++ more) is

module _ (w : Setting) where
  abbrev alternative_of : WrittenAlternative → CaseReads
  alternative_of = fold-Alternative (Reads Statement) CaseReads BranchReads (seq_step w) (alternative_step w) (branch_step w)

  abbrev branch_of : WrittenBranch → BranchReads
  branch_of = fold-Branch (Reads Statement) CaseReads BranchReads (seq_step w) (alternative_step w) (branch_step w)

  abbrev ReadsTwice : Reads Statement → Type 0
  ReadsTwice f = (scope : Scope) (s : Spot) (i : ℕ) (d e : Draft) → d.variables ≡ e.variables → DraftsAs Statement d e (f scope s i d) (f scope s i e)

  abbrev CaseTwice : CaseReads → Type 0
  CaseTwice f = (scope : Scope) (s : Spot) (k : Option Kind) (a : Seen) (d e : Draft) → d.variables ≡ e.variables → CasesAs Alternative d e (f scope s k a d) (f scope s k a e)

  abbrev BranchTwice : BranchReads → Type 0
  BranchTwice f = (scope : Scope) (s : Spot) (d e : Draft) → d.variables ≡ e.variables → DraftsAs Branch d e (f scope s d) (f scope s e)

  abbrev SeqAlike : Seq → Type 0
  SeqAlike x = ReadsTwice (statement_of w x)

  abbrev AlternativeAlike : WrittenAlternative → Type 0
  AlternativeAlike x = CaseTwice (alternative_of x)

  abbrev BranchAlike : WrittenBranch → Type 0
  BranchAlike x = BranchTwice (branch_of x)

  abbrev SeqPart : Type 0
  SeqPart = (s : Seq) × SeqAlike s

  abbrev AlternativePart : Type 0
  AlternativePart = (a : WrittenAlternative) × AlternativeAlike a

  abbrev BranchPart : Type 0
  BranchPart = (b : WrittenBranch) × BranchAlike b

  abbrev seqs_of : List SeqPart → List Seq
  seqs_of all = map (λ (p : SeqPart). p.0) all

  abbrev readings : List SeqPart → List (Reads Statement)
  readings all = map (statement_of w) (seqs_of all)

  abbrev branch_readings : List BranchPart → List BranchReads
  branch_readings all = map branch_of (map (λ (p : BranchPart). p.0) all)

  abbrev case_readings : List AlternativePart → List CaseReads
  case_readings all = map alternative_of (map (λ (p : AlternativePart). p.0) all)

  -- ---- lists

  abbrev Bodies : Draft → Draft → Draft × Part (List Statement) → Draft × Part (List Statement) → Type 0
  Bodies d e f g = DraftsAs (List Statement) d e f g

  ahead_formed : (A : Type 0) (p q : Part A) (r s : Part (List A)) → Formed A p q → Formed (List A) r s → Formed (List A) (both ahead p r) (both ahead q s)
  ahead_formed A p q r s h k = both_like A (List A) (List A) (Any A) (Any (List A)) (Any (List A)) ahead ahead (λ a c b d i j. tt) p q r s h k

  body_as : (all : List SeqPart) (scope : Scope) (s : Spot) (i : ℕ) (d e : Draft) → d.variables ≡ e.variables → Bodies d e (body (readings all) scope s i d) (body (readings all) scope s i e)
  body_as [] scope s i d e same = record { breaks = breaks_same d.notes e.notes; variables = same; like = tt }
  body_as (p ∷ more) scope s i d e same =
      let a = statement_of w p.0 scope s i d in
      let b = statement_of w p.0 scope s i e in
      let first : DraftsAs Statement d e a b = p.1 scope s i d e same in
      let f = body (readings more) scope s (i + 1) a.0 in
      let g = body (readings more) scope s (i + 1) b.0 in
      let rest : Bodies a.0 b.0 f g = body_as more scope s (i + 1) a.0 b.0 first.variables in
      record {
        breaks = breaks_on d.notes e.notes a.0.notes b.0.notes f.0.notes g.0.notes first.breaks rest.breaks;
        variables = rest.variables;
        like = ahead_formed Statement a.1 b.1 f.1 g.1 first.like rest.like;
      }

  branches_as : (all : List BranchPart) (scope : Scope) (s : Spot) (i k : ℕ) (d e : Draft) → d.variables ≡ e.variables
      → DraftsAs (List Branch) d e (branches (branch_readings all) scope s i k d) (branches (branch_readings all) scope s i k e)
  branches_as [] scope s i k d e same = record { breaks = breaks_same d.notes e.notes; variables = same; like = tt }
  branches_as (p ∷ more) scope s i k d e same =
      let a = branch_of p.0 scope (way_to s i k) d in
      let b = branch_of p.0 scope (way_to s i k) e in
      let first : DraftsAs Branch d e a b = p.1 scope (way_to s i k) d e same in
      let f = branches (branch_readings more) scope s i (k + 1) a.0 in
      let g = branches (branch_readings more) scope s i (k + 1) b.0 in
      let rest : DraftsAs (List Branch) a.0 b.0 f g = branches_as more scope s i (k + 1) a.0 b.0 first.variables in
      record {
        breaks = breaks_on d.notes e.notes a.0.notes b.0.notes f.0.notes g.0.notes first.breaks rest.breaks;
        variables = rest.variables;
        like = ahead_formed Branch a.1 b.1 f.1 g.1 first.like rest.like;
      }

  alternatives_as : (all : List AlternativePart) (scope : Scope) (s : Spot) (i k : ℕ) (x : Option Kind) (m : Seen) (d e : Draft) → d.variables ≡ e.variables
      → CasesAs (List Alternative) d e (alternatives (case_readings all) scope s i k x m d) (alternatives (case_readings all) scope s i k x m e)
  alternatives_as [] scope s i k x m d e same = record { breaks = breaks_same d.notes e.notes; variables = same; seen = refl; like = tt }
  alternatives_as (p ∷ more) scope s i k x m d e same =
      let a = alternative_of p.0 scope (way_to s i k) x m d in
      let b = alternative_of p.0 scope (way_to s i k) x m e in
      let first : CasesAs Alternative d e a b = p.1 scope (way_to s i k) x m d e same in
      let f = alternatives (case_readings more) scope s i (k + 1) x a.1.0 a.0 in
      let g = alternatives (case_readings more) scope s i (k + 1) x b.1.0 b.0 in
      let rest : CasesAs (List Alternative) a.0 b.0 f g =
      subst (λ (z : Seen). CasesAs (List Alternative) a.0 b.0 f (alternatives (case_readings more) scope s i (k + 1) x z b.0)) first.seen
      (alternatives_as more scope s i (k + 1) x a.1.0 a.0 b.0 first.variables) in
      record {
        breaks = breaks_on d.notes e.notes a.0.notes b.0.notes f.0.notes g.0.notes first.breaks rest.breaks;
        variables = rest.variables;
        seen = rest.seen;
        like = ahead_formed Alternative a.1.1 b.1.1 f.1.1 g.1.1 first.like rest.like;
      }

  -- ---- parts of statements

  branch_as : (x : Expr) (all : List SeqPart) → BranchTwice (branch_step w (record { condition = x; body = readings all }))
  branch_as x all scope s d e same =
      let a = must_be w scope running (Of t.Boolean) x d.notes in
      let b = must_be w scope running (Of t.Boolean) x e.notes in
      let f = body (readings all) scope s 0 (with_notes a.0 d) in
      let g = body (readings all) scope s 0 (with_notes b.0 e) in
      let first : ReadsAs FlatExpr (Any FlatExpr) d.notes e.notes a b = must_as w scope running (Of t.Boolean) x d.notes e.notes in
      let rest : Bodies (with_notes a.0 d) (with_notes b.0 e) f g = body_as all scope s 0 (with_notes a.0 d) (with_notes b.0 e) same in
      record {
        breaks = breaks_on d.notes e.notes a.0 b.0 f.0.notes g.0.notes first.breaks rest.breaks;
        variables = rest.variables;
        like =
            both_like FlatExpr (List Statement) Branch (Any FlatExpr) (Any (List Statement)) (Any Branch) made_branch made_branch (λ a c b d i j. tt) a.1 b.1 f.1 g.1 first.like rest.like;
      }

  alternative_as : (cs : List Choice) (all : List SeqPart) → CaseTwice (alternative_step w (record { choices = cs; body = readings all }))
  alternative_as cs all scope s k m d e same =
      let a = choices w scope (static_in running) k m cs d.notes in
      let b = choices w scope (static_in running) k m cs e.notes in
      let f = body (readings all) scope s 0 (with_notes a.0 d) in
      let g = body (readings all) scope s 0 (with_notes b.0 e) in
      let first : ChoosesAs w scope d.notes e.notes a b = choices_as w scope (static_in running) k m cs d.notes e.notes in
      let rest : Bodies (with_notes a.0 d) (with_notes b.0 e) f g = body_as all scope s 0 (with_notes a.0 d) (with_notes b.0 e) same in
      record {
        breaks = breaks_on d.notes e.notes a.0 b.0 f.0.notes g.0.notes first.breaks rest.breaks;
        variables = rest.variables;
        seen = ap (λ (z : Seen × Part Bool). z.0) first.found;
        like =
            both_like Bool (List Statement) Alternative (Any Bool) (Any (List Statement)) (Any Alternative) (made_alternative m a.1.0) (made_alternative m b.1.0) (λ a c b d i j. tt) a.1.1 b.1.1 f.1 g.1
            (like_equal Bool (Any Bool) (λ z. tt) a.1.1 b.1.1 (ap (λ (z : Seen × Part Bool). z.1) first.found)) rest.like;
      }

  abbrev last_readings : Option (List SeqPart) → Option (List (Reads Statement))
  last_readings None = None
  last_readings (Some all) = Some (readings all)

  otherwise_as : (all : Option (List SeqPart)) (scope : Scope) (s : Spot) (d e : Draft) → d.variables ≡ e.variables
      → Bodies d e (otherwise (last_readings all) scope s d) (otherwise (last_readings all) scope s e)
  otherwise_as None scope s d e same = record { breaks = breaks_same d.notes e.notes; variables = same; like = tt }
  otherwise_as (Some all) scope s d e same = body_as all scope s 0 d e same

  -- ---- statements

  if_as : (place : Place) (all : List BranchPart) (last : Option (List SeqPart)) → ReadsTwice (seq_step w (Seq-F.If place (branch_readings all) (last_readings last)))
  if_as place all last scope s i d e same =
      let k = length (branch_readings all) in
      let a = branches (branch_readings all) scope s i 0 d in
      let b = branches (branch_readings all) scope s i 0 e in
      let x = otherwise (last_readings last) scope (way_to s i k) a.0 in
      let y = otherwise (last_readings last) scope (way_to s i k) b.0 in
      let first : DraftsAs (List Branch) d e a b = branches_as all scope s i 0 d e same in
      let rest : Bodies a.0 b.0 x y = otherwise_as last scope (way_to s i k) a.0 b.0 first.variables in
      whole_as place d e (x.0, both made_if a.1 x.1) (y.0, both made_if b.1 y.1)
      (record {
        breaks = breaks_on d.notes e.notes a.0.notes b.0.notes x.0.notes y.0.notes first.breaks rest.breaks;
        variables = rest.variables;
        like =
            both_like (List Branch) (List Statement) Statement (Any (List Branch)) (Any (List Statement)) (Any Statement) made_if made_if (λ a c b d i j. tt) a.1 b.1 x.1 y.1 first.like rest.like;
      })

  case_formed : (seen : Seen) (a c : Typed) (b d : List Alternative) → LikeTyped a c → Formed Statement (made_case w seen a b) (made_case w seen c d)
  case_formed seen a c b d h =
      subst (λ (z : Typed). Formed Statement (made_case w seen a b) (made_case w seen z d)) (sym h.1) (formed_where Statement (covers w.enumerations a.kind seen) _ _)

  case_as : (place : Place) (x : Expr) (all : List AlternativePart) → ReadsTwice (seq_step w (Seq-F.Case place x (case_readings all)))
  case_as place x all scope s i d e same =
      let a = typed w scope running x d.notes in
      let b = typed w scope running x e.notes in
      let u = with_notes a.0 d in
      let v = with_notes b.0 e in
      let f = alternatives (case_readings all) scope s i 0 (kind_known a.1) nothing_seen u in
      let g = alternatives (case_readings all) scope s i 0 (kind_known b.1) nothing_seen v in
      let first : ReadsAs Typed LikeTyped d.notes e.notes a b = typed_as w scope running x d.notes e.notes in
      let rest : CasesAs (List Alternative) u v f g =
      subst (λ (k : Option Kind). CasesAs (List Alternative) u v f (alternatives (case_readings all) scope s i 0 k nothing_seen v)) (same_known a.1 b.1 first.like)
      (alternatives_as all scope s i 0 (kind_known a.1) nothing_seen u v same) in
      whole_as place d e (f.0, both (made_case w f.1.0) a.1 f.1.1) (g.0, both (made_case w g.1.0) b.1 g.1.1)
      (record {
        breaks = breaks_on d.notes e.notes a.0 b.0 f.0.notes g.0.notes first.breaks rest.breaks;
        variables = rest.variables;
        like =
            subst (λ (z : Seen). Formed Statement (both (made_case w f.1.0) a.1 f.1.1) (both (made_case w z) b.1 g.1.1)) rest.seen
            (both_like Typed (List Alternative) Statement LikeTyped (Any (List Alternative)) (Any Statement) (made_case w f.1.0) (made_case w f.1.0) (λ p q y z h k. case_formed f.1.0 p q y z h)
            a.1 b.1 f.1.1 g.1.1 first.like rest.like);
      })

  while_formed : (p q : Part FlatExpr) (r s : Part (List Statement)) → Formed FlatExpr p q → Formed (List Statement) r s → Formed Statement (both made_loop (judged given p) r) (both made_loop (judged given q) s)
  while_formed p q r s h k =
      both_like (Option FlatExpr) (List Statement) Statement (Any (Option FlatExpr)) (Any (List Statement)) (Any Statement) made_loop made_loop (λ a c b d i j. tt) (judged given p) (judged given q) r s
      (judged_like FlatExpr (Option FlatExpr) (Any FlatExpr) (Any (Option FlatExpr)) given given (λ a b i. tt) p q h) k

  loop_as : (how : Iteration) (all : List SeqPart) → ReadsTwice (loop_statement w how (readings all))
  loop_as iteration.Endless all scope s i d e same =
      let f = body (readings all) scope (looping s i) 0 d in
      let g = body (readings all) scope (looping s i) 0 e in
      let rest : Bodies d e f g = body_as all scope (looping s i) 0 d e same in
      record {
        breaks = rest.breaks;
        variables = rest.variables;
        like = judged_like (List Statement) Statement (Any (List Statement)) (Any Statement) (made_loop None) (made_loop None) (λ a b h. tt) f.1 g.1 rest.like;
      }
  loop_as (iteration.While x) all scope s i d e same =
      let a = must_be w scope running (Of t.Boolean) x d.notes in
      let b = must_be w scope running (Of t.Boolean) x e.notes in
      let f = body (readings all) scope (looping s i) 0 (with_notes a.0 d) in
      let g = body (readings all) scope (looping s i) 0 (with_notes b.0 e) in
      let first : ReadsAs FlatExpr (Any FlatExpr) d.notes e.notes a b = must_as w scope running (Of t.Boolean) x d.notes e.notes in
      let rest : Bodies (with_notes a.0 d) (with_notes b.0 e) f g = body_as all scope (looping s i) 0 (with_notes a.0 d) (with_notes b.0 e) same in
      record {
        breaks = breaks_on d.notes e.notes a.0 b.0 f.0.notes g.0.notes first.breaks rest.breaks;
        variables = rest.variables;
        like = while_formed a.1 b.1 f.1 g.1 first.like rest.like;
      }
  loop_as (iteration.For x range) all scope s i d e same =
      let left = must_be w scope running (Of t.Integer) range.left d.notes in
      let other = must_be w scope running (Of t.Integer) range.left e.notes in
      let right = must_be w scope running (Of t.Integer) range.right left.0 in
      let far = must_be w scope running (Of t.Integer) range.right other.0 in
      let p = length d.variables in
      let q = length e.variables in
      let a = with_parameter w.texts x (with_notes right.0 d) in
      let b = with_parameter w.texts x (with_notes far.0 e) in
      let inner = λ (k : ℕ). with_name (inside scope) x.number (thing.Parameter k) in
      let f = body (readings all) (inner p) (within_loop s i p) 0 a in
      let g = body (readings all) (inner q) (within_loop s i q) 0 b in
      let numbered : p ≡ q = ap (λ (l : List Variable). length l) same in
      let first : ReadsAs FlatExpr (Any FlatExpr) d.notes e.notes left other = must_as w scope running (Of t.Integer) range.left d.notes e.notes in
      let second : ReadsAs FlatExpr (Any FlatExpr) left.0 other.0 right far = must_as w scope running (Of t.Integer) range.right left.0 other.0 in
      let rest : Bodies a b f g =
      subst (λ (k : ℕ). Bodies a b f (body (readings all) (inner k) (within_loop s i k) 0 b)) numbered
      (body_as all (inner p) (within_loop s i p) 0 a b (same_before d.variables e.variables _ same)) in
      record {
        breaks =
            breaks_on d.notes e.notes left.0 other.0 f.0.notes g.0.notes first.breaks
            (breaks_on left.0 other.0 right.0 far.0 f.0.notes g.0.notes second.breaks rest.breaks);
        variables = rest.variables;
        like =
            both_like (FlatExpr × FlatExpr) (List Statement) Statement (Any (FlatExpr × FlatExpr)) (Any (List Statement)) (Any Statement) (made_for p range.direction) (made_for q range.direction)
            (λ a c b d i j. tt) (both paired left.1 right.1) (both paired other.1 far.1) f.1 g.1
            (both_like FlatExpr FlatExpr (FlatExpr × FlatExpr) (Any FlatExpr) (Any FlatExpr) (Any (FlatExpr × FlatExpr)) paired paired (λ a c b d i j. tt) left.1 other.1 right.1 far.1
            first.like second.like)
            rest.like;
      }

  signal_as : (x : Name) (delay : Option DelayMechanism) (wave : List WaveformElement) → ReadsTwice (signal_statement w x delay wave)
  signal_as x delay wave scope s i d e same =
      let a = target scope x d.notes in
      let b = target scope x e.notes in
      let f = assignment w scope a.1 delay wave a.0 in
      let g = assignment w scope b.1 delay wave b.0 in
      let first : ReadsAs (ℕ × Subtype) (Same (ℕ × Subtype)) d.notes e.notes a b = target_as w scope x d.notes e.notes in
      let second : ReadsAs Statement (Any Statement) a.0 b.0 f g =
      subst (λ (to : Part (ℕ × Subtype)). ReadsAs Statement (Any Statement) a.0 b.0 f (assignment w scope to delay wave b.0)) (equal_like (ℕ × Subtype) a.1 b.1 first.like)
      (assignment_as w scope a.1 delay wave a.0 b.0) in
      simple_as x.place d e (driving a.1 d) (driving b.1 e) f g (driving_variables a.1 d ∙ (same ∙ sym (driving_variables b.1 e)))
      (record { breaks = breaks_on d.notes e.notes a.0 b.0 f.0 g.0 first.breaks second.breaks; like = second.like })

  -- ---- the induction

  abbrev seq_of : Seq-F SeqPart AlternativePart BranchPart → Seq
  seq_of y = roll-Seq (map-Seq SeqPart AlternativePart BranchPart Seq WrittenAlternative WrittenBranch (λ p. p.0) (λ p. p.0) (λ p. p.0) y)

  lift : (y : Seq-F Seq WrittenAlternative WrittenBranch) (f : Reads Statement) → statement_of w (roll-Seq y) ≡ f → ReadsTwice f → SeqAlike (roll-Seq y)
  lift y f e h = subst ReadsTwice (sym e) h

  opened : (y : Seq-F Seq WrittenAlternative WrittenBranch)
      → statement_of w (roll-Seq y) ≡ seq_step w (map-Seq Seq WrittenAlternative WrittenBranch (Reads Statement) CaseReads BranchReads (statement_of w) alternative_of branch_of y)
  opened y = fold-roll-Seq (Reads Statement) CaseReads BranchReads (seq_step w) (alternative_step w) (branch_step w) y

  if_step : (place : Place) (all : List BranchPart) (last : Option (List SeqPart)) → SeqAlike (seq_of (Seq-F.If place all last))
  if_step place all None =
      lift (Seq-F.If place (map (λ (p : BranchPart). p.0) all) None) (seq_step w (Seq-F.If place (branch_readings all) None)) (opened (Seq-F.If place (map (λ (p : BranchPart). p.0) all) None))
      (if_as place all None)
  if_step place all (Some last) =
      lift (Seq-F.If place (map (λ (p : BranchPart). p.0) all) (Some (seqs_of last))) (seq_step w (Seq-F.If place (branch_readings all) (last_readings (Some last))))
      (opened (Seq-F.If place (map (λ (p : BranchPart). p.0) all) (Some (seqs_of last))))
      (if_as place all (Some last))

  seq_steps : (y : Seq-F SeqPart AlternativePart BranchPart) → SeqAlike (seq_of y)
  seq_steps (Seq-F.Signal x delay wave) =
      lift (Seq-F.Signal x delay wave) (seq_step w (Seq-F.Signal x delay wave)) (opened (Seq-F.Signal x delay wave)) (signal_as x delay wave)
  seq_steps (Seq-F.Variable x value) =
      lift (Seq-F.Variable x value) (seq_step w (Seq-F.Variable x value)) (opened (Seq-F.Variable x value))
      (λ scope s i d e same. simple_as x.place d e d e (variable_assignment w scope x value d.notes) (variable_assignment w scope x value e.notes) same (variable_as w x value scope d.notes e.notes))
  seq_steps (Seq-F.If place all last) = if_step place all last
  seq_steps (Seq-F.Case place x all) =
      lift (Seq-F.Case place x (map (λ (p : AlternativePart). p.0) all)) (seq_step w (Seq-F.Case place x (case_readings all))) (opened (Seq-F.Case place x (map (λ (p : AlternativePart). p.0) all)))
      (case_as place x all)
  seq_steps (Seq-F.Loop place how all) =
      lift (Seq-F.Loop place how (seqs_of all)) (seq_step w (Seq-F.Loop place how (readings all))) (opened (Seq-F.Loop place how (seqs_of all)))
      (λ scope s i d e same. whole_as place d e (loop_statement w how (readings all) scope s i d) (loop_statement w how (readings all) scope s i e) (loop_as how all scope s i d e same))
  seq_steps (Seq-F.Exit place x) =
      lift (Seq-F.Exit place x) (seq_step w (Seq-F.Exit place x)) (opened (Seq-F.Exit place x))
      (λ scope s i d e same. simple_as place d e d e (leaving w scope s statement.Exit x d.notes) (leaving w scope s statement.Exit x e.notes) same (leaving_as w statement.Exit x scope s d.notes e.notes))
  seq_steps (Seq-F.Next place x) =
      lift (Seq-F.Next place x) (seq_step w (Seq-F.Next place x)) (opened (Seq-F.Next place x))
      (λ scope s i d e same. simple_as place d e d e (leaving w scope s statement.Next x d.notes) (leaving w scope s statement.Next x e.notes) same (leaving_as w statement.Next x scope s d.notes e.notes))
  seq_steps (Seq-F.Wait place names until time) =
      lift (Seq-F.Wait place names until time) (seq_step w (Seq-F.Wait place names until time)) (opened (Seq-F.Wait place names until time))
      (λ scope s i d e same.
      simple_as place d e (with_wait s i d) (with_wait s i e) (wait_statement w scope names until time d) (wait_statement w scope names until time e) same (wait_as w names until time scope d e))
  seq_steps (Seq-F.Assert a) =
      lift (Seq-F.Assert a) (seq_step w (Seq-F.Assert a)) (opened (Seq-F.Assert a))
      (λ scope s i d e same. simple_as a.place d e d e (assertion w scope a d.notes) (assertion w scope a e.notes) same (assert_as w a scope d.notes e.notes))
  seq_steps (Seq-F.Report place r) =
      lift (Seq-F.Report place r) (seq_step w (Seq-F.Report place r)) (opened (Seq-F.Report place r))
      (λ scope s i d e same.
      simple_as place d e d e (d.notes, report w r) (e.notes, report w r) same
      (record { breaks = breaks_same d.notes e.notes; like = like_self Statement (Any Statement) (λ z. tt) (report w r) }))
  seq_steps (Seq-F.Break place elements x) =
      lift (Seq-F.Break place elements x) (seq_step w (Seq-F.Break place elements x)) (opened (Seq-F.Break place elements x))
      (λ scope s i d e same. simple_as place d e d e (break_statement w scope elements x d.notes) (break_statement w scope elements x e.notes) same (break_as w elements x scope d.notes e.notes))
  seq_steps (Seq-F.Null place) =
      lift (Seq-F.Null place) (seq_step w (Seq-F.Null place)) (opened (Seq-F.Null place)) (λ scope s i d e same. record { breaks = breaks_same d.notes e.notes; variables = same; like = tt })

  abbrev alternative_at : Alternative-F SeqPart AlternativePart BranchPart → WrittenAlternative
  alternative_at y = roll-Alternative (map-Alternative SeqPart AlternativePart BranchPart Seq WrittenAlternative WrittenBranch (λ p. p.0) (λ p. p.0) (λ p. p.0) y)

  alternative_steps : (y : Alternative-F SeqPart AlternativePart BranchPart) → AlternativeAlike (alternative_at y)
  alternative_steps y =
      subst CaseTwice (sym (fold-roll-Alternative (Reads Statement) CaseReads BranchReads (seq_step w) (alternative_step w) (branch_step w) (record { choices = y.choices; body = seqs_of y.body })))
      (alternative_as y.choices y.body)

  abbrev branch_at : Branch-F SeqPart AlternativePart BranchPart → WrittenBranch
  branch_at y = roll-Branch (map-Branch SeqPart AlternativePart BranchPart Seq WrittenAlternative WrittenBranch (λ p. p.0) (λ p. p.0) (λ p. p.0) y)

  branch_steps : (y : Branch-F SeqPart AlternativePart BranchPart) → BranchAlike (branch_at y)
  branch_steps y =
      subst BranchTwice (sym (fold-roll-Branch (Reads Statement) CaseReads BranchReads (seq_step w) (alternative_step w) (branch_step w) (record { condition = y.condition; body = seqs_of y.body })))
      (branch_as y.condition y.body)

  pub statement_as : (s : Seq) → SeqAlike s
  statement_as =
      ind-Seq SeqAlike AlternativeAlike BranchAlike
      (λ x y is. subst (λ (z : Seq-F Seq WrittenAlternative WrittenBranch). SeqAlike (roll-Seq z)) is (seq_steps y))
      (λ x y is. subst (λ (z : Alternative-F Seq WrittenAlternative WrittenBranch). AlternativeAlike (roll-Alternative z)) is (alternative_steps y))
      (λ x y is. subst (λ (z : Branch-F Seq WrittenAlternative WrittenBranch). BranchAlike (roll-Branch z)) is (branch_steps y))

  pub all_as : (all : List Seq) (scope : Scope) (s : Spot) (i : ℕ) (d e : Draft) → d.variables ≡ e.variables
      → DraftsAs (List Statement) d e (body (map (statement_of w) all) scope s i d) (body (map (statement_of w) all) scope s i e)
  all_as [] scope s i d e same = record { breaks = breaks_same d.notes e.notes; variables = same; like = tt }
  all_as (x ∷ more) scope s i d e same =
      let a = statement_of w x scope s i d in
      let b = statement_of w x scope s i e in
      let first : DraftsAs Statement d e a b = statement_as x scope s i d e same in
      let f = body (map (statement_of w) more) scope s (i + 1) a.0 in
      let g = body (map (statement_of w) more) scope s (i + 1) b.0 in
      let rest : DraftsAs (List Statement) a.0 b.0 f g = all_as more scope s (i + 1) a.0 b.0 first.variables in
      record {
        breaks = breaks_on d.notes e.notes a.0.notes b.0.notes f.0.notes g.0.notes first.breaks rest.breaks;
        variables = rest.variables;
        like = ahead_formed Statement a.1 b.1 f.1 g.1 first.like rest.like;
      }

pub bodies_break_alike : BodiesBreakAlike
bodies_break_alike w all scope spot i d e same = (all_as w all scope spot i d e same).breaks
