-- Sequential statements, read twice, by induction on the tree.
use Rattle.std.proofs.Common.{◌≡◌, ℕ, ◌+◌, IsTrue, Bool, true, false, if◌then◌else◌, List, [], ◌∷◌, ◌++◌, length, map, Option, Some, None, refl, sym, subst}
use Rattle.std.specs.Prelude.{nat_eq}
use Rattle.std.specs.List.{list_any}
use Rattle.ams_token.specs.declared.token.Place.{Place}
use Rattle.ams_tree.specs.declared.expression.Name.{Name}
use Rattle.ams_tree.specs.declared.expression.Expr.{Expr}
use Rattle.ams_tree.specs.declared.sequential.Alternative.{Alternative as WrittenAlternative}
use Rattle.ams_tree.specs.declared.sequential.Branch.{Branch as WrittenBranch}
use Rattle.ams_tree.specs.declared.sequential.BreakElement.{BreakElement}
use Rattle.ams_tree.specs.declared.sequential.Choice.{Choice}
use Rattle.ams_tree.specs.declared.sequential.DelayMechanism.{DelayMechanism}
use Rattle.ams_tree.specs.declared.sequential.Iteration.{Iteration}
use Rattle.ams_tree.specs.declared.sequential.Iteration.TheVariants as iteration
use Rattle.ams_tree.specs.declared.sequential.Seq.{Seq}
use Rattle.ams_tree.specs.declared.sequential.Seq.TheOpen.{Branch-F, Alternative-F, Seq-F}
use Rattle.ams_tree.specs.declared.sequential.Seq.TheViews.{roll-Seq, roll-Alternative, roll-Branch}
use Rattle.ams_tree.specs.declared.sequential.Seq.TheFolds.{map-Seq, map-Alternative, map-Branch, fold-Alternative, fold-Branch, fold-roll-Seq, fold-roll-Alternative, fold-roll-Branch, ind-Seq}
use Rattle.ams_tree.specs.declared.sequential.WaveformElement.{WaveformElement}
use Rattle.ams_value.specs.declared.value_type.ValueType.TheVariants as t
use Rattle.flat_expr.specs.declared.statement.Statement.{Statement}
use Rattle.name_scope.specs.declared.thing.Kind.{Kind}
use Rattle.name_scope.specs.declared.thing.Kind.TheVariants.{Of}
use Rattle.name_scope.specs.declared.thing.Subtype.{Subtype}
use Rattle.name_scope.specs.declared.thing.Thing.TheVariants as thing
use Rattle.name_scope.specs.declared.scope.Scope.{Scope}
use Rattle.name_scope.specs.Scopes.{lookup, inside, with_name}
use Rattle.elab_meaning.specs.declared.fault.Notes.{Notes}
use Rattle.elab_meaning.specs.declared.part.Part.{Part}
use Rattle.elab_meaning.specs.Expressions.{static_in}
use Rattle.elab_meaning.specs.Parts.{found_thing}
use Rattle.unit_meaning.specs.declared.draft.Draft.{Draft}
use Rattle.unit_meaning.specs.declared.draft.Seen.{Seen}
use Rattle.unit_meaning.specs.declared.draft.Spot.{Spot}
use Rattle.unit_meaning.specs.Settings.{Setting, running, typed, must_be, condition}
use Rattle.unit_meaning.specs.Waveforms.{target, mechanism, waveform, assignment}
use Rattle.unit_meaning.specs.Bare.{sensitivity, break_elements}
use Rattle.unit_meaning.specs.Cases.{choices, nothing_seen}
use Rattle.unit_meaning.specs.Sequential.{with_notes, with_driver, with_parameter, with_wait, way_to, looping, within_loop, variable_assignment, break_statement, wait_statement, Reads, CaseReads, BranchReads, body, branch_step, branches, otherwise, alternative_step, alternatives, kind_known, case_statement, loop_statement, simple, whole, driving, signal_statement, seq_step, statement_of}
use Rattle.alike_laws.specs.Alike.{AlikeScopes, ExpressionsFollow, StaticsFollow}
use Rattle.alike_laws.proofs.Scopes.{named_alike, inside_alike}
use Rattle.alike_parts.specs.Follows.{BothRead}
use Rattle.alike_parts.proofs.Follows.{Follows, same_follows, on_follows, finished_follows}
use Rattle.alike_parts.proofs.Parts.{names_follow, typed_follows, must_follows, may_follows, condition_follows, sensitivity_follows, breaks_follows, assertion_follows, target_follows, mechanism_follows, waveform_follows}
use Rattle.alike_parts.proofs.Statements.{choices_follows}
use Rattle.alike_bodies.specs.Bodies.{BodiesFollow}

driver_notes : (i : ℕ) (d : Draft) → (with_driver i d).notes ≡ d.notes
driver_notes i d = go (list_any (nat_eq i) d.drivers)
  where
    go : (b : Bool) → (if b then d else record d { drivers = d.drivers ++ i ∷ [] }).notes ≡ d.notes
    go true = refl
    go false = refl

module _ (G : Type 0) where
  abbrev Drafts : Draft → Draft → Draft → Draft → Type 0
  Drafts d e on to = Follows G d.notes e.notes on.notes to.notes

  -- a statement that holds no others
  simple_follows : (place : Place) (d e a b : Draft) (f g : Notes × Part Statement) → Follows G d.notes e.notes f.0 g.0 → Drafts d e (simple place a f).0 (simple place b g).0
  simple_follows place d e a b f g h = finished_follows G Statement place f.1 g.1 d.notes e.notes f.0 g.0 h

  whole_follows : (place : Place) (d e : Draft) (f g : Draft × Part Statement) → Drafts d e f.0 g.0 → Drafts d e (whole place f).0 (whole place g).0
  whole_follows place d e f g h = finished_follows G Statement place f.1 g.1 d.notes e.notes f.0.notes g.0.notes h

module _ (G : Type 0) (natures : List ℕ) (checked entered : Setting) (reads : ExpressionsFollow) (statics : StaticsFollow) (texts : checked.texts ≡ entered.texts) where
  abbrev Likeness : Scope → Scope → Type 0
  Likeness early late = G → AlikeScopes natures early late

  abbrev premise : (early late : Scope) → Likeness early late → BothRead G natures checked entered early late
  premise early late like = record { reads = reads; statics = statics; texts = texts; alike = like }

  abbrev alternative_of : Setting → WrittenAlternative → CaseReads
  alternative_of w = fold-Alternative (Reads Statement) CaseReads BranchReads (seq_step w) (alternative_step w) (branch_step w)

  abbrev branch_of : Setting → WrittenBranch → BranchReads
  branch_of w = fold-Branch (Reads Statement) CaseReads BranchReads (seq_step w) (alternative_step w) (branch_step w)

  abbrev ReadsTwice : Reads Statement → Reads Statement → Type 0
  ReadsTwice f g = (early late : Scope) (s u : Spot) (i : ℕ) (d e : Draft) → Likeness early late → Drafts G d e (f early s i d).0 (g late u i e).0

  abbrev CaseTwice : CaseReads → CaseReads → Type 0
  CaseTwice f g = (early late : Scope) (s u : Spot) (k l : Option Kind) (a b : Seen) (d e : Draft) → Likeness early late → Drafts G d e (f early s k a d).0 (g late u l b e).0

  abbrev BranchTwice : BranchReads → BranchReads → Type 0
  BranchTwice f g = (early late : Scope) (s u : Spot) (d e : Draft) → Likeness early late → Drafts G d e (f early s d).0 (g late u e).0

  abbrev SeqFollows : Seq → Type 0
  SeqFollows x = ReadsTwice (statement_of checked x) (statement_of entered x)

  abbrev AlternativeFollows : WrittenAlternative → Type 0
  AlternativeFollows x = CaseTwice (alternative_of checked x) (alternative_of entered x)

  abbrev BranchFollows : WrittenBranch → Type 0
  BranchFollows x = BranchTwice (branch_of checked x) (branch_of entered x)

  abbrev SeqPart : Type 0
  SeqPart = (s : Seq) × SeqFollows s

  abbrev AlternativePart : Type 0
  AlternativePart = (a : WrittenAlternative) × AlternativeFollows a

  abbrev BranchPart : Type 0
  BranchPart = (b : WrittenBranch) × BranchFollows b

  abbrev seqs_of : List SeqPart → List Seq
  seqs_of all = map (λ (p : SeqPart). p.0) all

  abbrev readings : Setting → List SeqPart → List (Reads Statement)
  readings w all = map (statement_of w) (seqs_of all)

  abbrev branch_readings : Setting → List BranchPart → List BranchReads
  branch_readings w all = map (branch_of w) (map (λ (p : BranchPart). p.0) all)

  abbrev case_readings : Setting → List AlternativePart → List CaseReads
  case_readings w all = map (alternative_of w) (map (λ (p : AlternativePart). p.0) all)

  -- ---- lists

  body_follows : (all : List SeqPart) (early late : Scope) (s u : Spot) (i : ℕ) (d e : Draft) → Likeness early late
      → Drafts G d e (body (readings checked all) early s i d).0 (body (readings entered all) late u i e).0
  body_follows [] early late s u i d e like = same_follows G d.notes e.notes
  body_follows (p ∷ more) early late s u i d e like =
      let a = statement_of checked p.0 early s i d in
      let b = statement_of entered p.0 late u i e in
      on_follows G d.notes e.notes a.0.notes b.0.notes (body (readings checked more) early s (i + 1) a.0).0.notes (body (readings entered more) late u (i + 1) b.0).0.notes
      (p.1 early late s u i d e like) (body_follows more early late s u (i + 1) a.0 b.0 like)

  branches_follow : (all : List BranchPart) (early late : Scope) (s u : Spot) (i j k : ℕ) (d e : Draft) → Likeness early late
      → Drafts G d e (branches (branch_readings checked all) early s i k d).0 (branches (branch_readings entered all) late u j k e).0
  branches_follow [] early late s u i j k d e like = same_follows G d.notes e.notes
  branches_follow (p ∷ more) early late s u i j k d e like =
      let a = branch_of checked p.0 early (way_to s i k) d in
      let b = branch_of entered p.0 late (way_to u j k) e in
      on_follows G d.notes e.notes a.0.notes b.0.notes (branches (branch_readings checked more) early s i (k + 1) a.0).0.notes (branches (branch_readings entered more) late u j (k + 1) b.0).0.notes
      (p.1 early late (way_to s i k) (way_to u j k) d e like) (branches_follow more early late s u i j (k + 1) a.0 b.0 like)

  alternatives_follow : (all : List AlternativePart) (early late : Scope) (s u : Spot) (i k : ℕ) (x y : Option Kind) (m n : Seen) (d e : Draft) → Likeness early late
      → Drafts G d e (alternatives (case_readings checked all) early s i k x m d).0 (alternatives (case_readings entered all) late u i k y n e).0
  alternatives_follow [] early late s u i k x y m n d e like = same_follows G d.notes e.notes
  alternatives_follow (p ∷ more) early late s u i k x y m n d e like =
      let a = alternative_of checked p.0 early (way_to s i k) x m d in
      let b = alternative_of entered p.0 late (way_to u i k) y n e in
      on_follows G d.notes e.notes a.0.notes b.0.notes (alternatives (case_readings checked more) early s i (k + 1) x a.1.0 a.0).0.notes
      (alternatives (case_readings entered more) late u i (k + 1) y b.1.0 b.0).0.notes
      (p.1 early late (way_to s i k) (way_to u i k) x y m n d e like) (alternatives_follow more early late s u i (k + 1) x y a.1.0 b.1.0 a.0 b.0 like)

  -- ---- parts of statements

  branch_follows : (x : Expr) (all : List SeqPart)
      → BranchTwice (branch_step checked (record { condition = x; body = readings checked all })) (branch_step entered (record { condition = x; body = readings entered all }))
  branch_follows x all early late s u d e like =
      let a = must_be checked early running (Of t.Boolean) x d.notes in
      let b = must_be entered late running (Of t.Boolean) x e.notes in
      on_follows G d.notes e.notes a.0 b.0 (body (readings checked all) early s 0 (with_notes a.0 d)).0.notes (body (readings entered all) late u 0 (with_notes b.0 e)).0.notes
      (must_follows G natures checked entered early late (premise early late like) running (Of t.Boolean) x d.notes e.notes)
      (body_follows all early late s u 0 (with_notes a.0 d) (with_notes b.0 e) like)

  alternative_follows : (cs : List Choice) (all : List SeqPart)
      → CaseTwice (alternative_step checked (record { choices = cs; body = readings checked all })) (alternative_step entered (record { choices = cs; body = readings entered all }))
  alternative_follows cs all early late s u k l m n d e like =
      let a = choices checked early (static_in running) k m cs d.notes in
      let b = choices entered late (static_in running) l n cs e.notes in
      on_follows G d.notes e.notes a.0 b.0 (body (readings checked all) early s 0 (with_notes a.0 d)).0.notes (body (readings entered all) late u 0 (with_notes b.0 e)).0.notes
      (choices_follows G natures checked entered early late (premise early late like) (static_in running) k l m n cs d.notes e.notes)
      (body_follows all early late s u 0 (with_notes a.0 d) (with_notes b.0 e) like)

  abbrev last_readings : Setting → Option (List SeqPart) → Option (List (Reads Statement))
  last_readings w None = None
  last_readings w (Some all) = Some (readings w all)

  otherwise_follows : (all : Option (List SeqPart)) (early late : Scope) (s u : Spot) (d e : Draft) → Likeness early late
      → Drafts G d e (otherwise (last_readings checked all) early s d).0 (otherwise (last_readings entered all) late u e).0
  otherwise_follows None early late s u d e like = same_follows G d.notes e.notes
  otherwise_follows (Some all) early late s u d e like = body_follows all early late s u 0 d e like

  -- ---- statements

  if_follows : (place : Place) (all : List BranchPart) (last : Option (List SeqPart))
      → ReadsTwice (seq_step checked (Seq-F.If place (branch_readings checked all) (last_readings checked last))) (seq_step entered (Seq-F.If place (branch_readings entered all) (last_readings entered last)))
  if_follows place all last early late s u i d e like =
      let k = length (branch_readings checked all) in
      let l = length (branch_readings entered all) in
      let a = branches (branch_readings checked all) early s i 0 d in
      let b = branches (branch_readings entered all) late u i 0 e in
      let x = otherwise (last_readings checked last) early (way_to s i k) a.0 in
      let y = otherwise (last_readings entered last) late (way_to u i l) b.0 in
      whole_follows G place d e (x.0, _) (y.0, _)
      (on_follows G d.notes e.notes a.0.notes b.0.notes x.0.notes y.0.notes (branches_follow all early late s u i i 0 d e like)
      (otherwise_follows last early late (way_to s i k) (way_to u i l) a.0 b.0 like))

  case_follows : (place : Place) (x : Expr) (all : List AlternativePart)
      → ReadsTwice (seq_step checked (Seq-F.Case place x (case_readings checked all))) (seq_step entered (Seq-F.Case place x (case_readings entered all)))
  case_follows place x all early late s u i d e like =
      let a = typed checked early running x d.notes in
      let b = typed entered late running x e.notes in
      let f = case_statement checked x (case_readings checked all) early s i d in
      let g = case_statement entered x (case_readings entered all) late u i e in
      whole_follows G place d e f g
      (on_follows G d.notes e.notes a.0 b.0 f.0.notes g.0.notes (typed_follows G natures checked entered early late (premise early late like) running x d.notes e.notes)
      (alternatives_follow all early late s u i 0 (kind_known a.1) (kind_known b.1) nothing_seen nothing_seen (with_notes a.0 d) (with_notes b.0 e) like))

  -- a loop's parameter, in a region inside
  parameter_alike : (early late : Scope) (x p q : ℕ) → Likeness early late → Likeness (with_name (inside early) x (thing.Parameter p)) (with_name (inside late) x (thing.Parameter q))
  parameter_alike early late x p q like there =
      named_alike natures (inside early) (inside late) x (thing.Parameter p) (thing.Parameter q) (inside_alike natures early late (like there))
      (record { whole = refl; label = refl; changing = λ h. h; terminal_known = tt; terminal = tt; nature_known = tt; nature = tt })

  loop_follows : (how : Iteration) (all : List SeqPart) → ReadsTwice (loop_statement checked how (readings checked all)) (loop_statement entered how (readings entered all))
  loop_follows iteration.Endless all early late s u i d e like = body_follows all early late (looping s i) (looping u i) 0 d e like
  loop_follows (iteration.While x) all early late s u i d e like =
      let a = must_be checked early running (Of t.Boolean) x d.notes in
      let b = must_be entered late running (Of t.Boolean) x e.notes in
      on_follows G d.notes e.notes a.0 b.0 (body (readings checked all) early (looping s i) 0 (with_notes a.0 d)).0.notes (body (readings entered all) late (looping u i) 0 (with_notes b.0 e)).0.notes
      (must_follows G natures checked entered early late (premise early late like) running (Of t.Boolean) x d.notes e.notes)
      (body_follows all early late (looping s i) (looping u i) 0 (with_notes a.0 d) (with_notes b.0 e) like)
  loop_follows (iteration.For x range) all early late s u i d e like =
      let left = must_be checked early running (Of t.Integer) range.left d.notes in
      let other = must_be entered late running (Of t.Integer) range.left e.notes in
      let right = must_be checked early running (Of t.Integer) range.right left.0 in
      let far = must_be entered late running (Of t.Integer) range.right other.0 in
      let p = length d.variables in
      let q = length e.variables in
      let on = with_parameter checked.texts x (with_notes right.0 d) in
      let to = with_parameter entered.texts x (with_notes far.0 e) in
      let first = with_name (inside early) x.number (thing.Parameter p) in
      let second = with_name (inside late) x.number (thing.Parameter q) in
      let a = body (readings checked all) first (within_loop s i p) 0 on in
      let b = body (readings entered all) second (within_loop u i q) 0 to in
      on_follows G d.notes e.notes left.0 other.0 a.0.notes b.0.notes
      (must_follows G natures checked entered early late (premise early late like) running (Of t.Integer) range.left d.notes e.notes)
      (on_follows G left.0 other.0 right.0 far.0 a.0.notes b.0.notes
      (must_follows G natures checked entered early late (premise early late like) running (Of t.Integer) range.right left.0 other.0)
      (body_follows all first second (within_loop s i p) (within_loop u i q) 0 on to (parameter_alike early late x.number p q like)))

  assignment_follows : (early late : Scope) (to from : Part (ℕ × Subtype)) (delay : Option DelayMechanism) (xs : List WaveformElement) (n m : Notes) → Likeness early late
      → Follows G n m (assignment checked early to delay xs n).0 (assignment entered late from delay xs m).0
  assignment_follows early late to from delay xs n m like =
      let a = mechanism checked early delay n in
      let b = mechanism entered late delay m in
      on_follows G n m a.0 b.0 (waveform checked early to xs a.0).0 (waveform entered late from xs b.0).0
      (mechanism_follows G natures checked entered early late (premise early late like) delay n m)
      (waveform_follows G natures checked entered early late (premise early late like) to from xs a.0 b.0)

  signal_follows : (x : Name) (delay : Option DelayMechanism) (wave : List WaveformElement) → ReadsTwice (signal_statement checked x delay wave) (signal_statement entered x delay wave)
  signal_follows x delay wave early late s u i d e like =
      let a = target early x d.notes in
      let b = target late x e.notes in
      let f = assignment checked early a.1 delay wave a.0 in
      let g = assignment entered late b.1 delay wave b.0 in
      simple_follows G x.place d e (driving a.1 d) (driving b.1 e) f g
      (on_follows G d.notes e.notes a.0 b.0 f.0 g.0 (target_follows G natures checked entered early late (premise early late like) x d.notes e.notes)
      (assignment_follows early late a.1 b.1 delay wave a.0 b.0 like))

  variable_follows : (x : Name) (value : Expr) (early late : Scope) (n m : Notes) → Likeness early late
      → Follows G n m (variable_assignment checked early x value n).0 (variable_assignment entered late x value m).0
  variable_follows x value early late n m like =
      let f = found_thing x (lookup early x.number) n in
      let g = found_thing x (lookup late x.number) m in
      on_follows G n m f.0 g.0 (variable_assignment checked early x value n).0 (variable_assignment entered late x value m).0
      (names_follow G natures checked entered early late (premise early late like) x n m)
      (typed_follows G natures checked entered early late (premise early late like) running value f.0 g.0)

  wait_follows : (names : List Expr) (until time : Option Expr) (early late : Scope) (d e : Draft) → Likeness early late
      → Follows G d.notes e.notes (wait_statement checked early names until time d).0 (wait_statement entered late names until time e).0
  wait_follows names until time early late d e like =
      let a = sensitivity checked early names d.notes in
      let b = sensitivity entered late names e.notes in
      let x = condition checked early until a.0 in
      let y = condition entered late until b.0 in
      let f = wait_statement checked early names until time d in
      let g = wait_statement entered late names until time e in
      on_follows G d.notes e.notes a.0 b.0 f.0 g.0 (sensitivity_follows G natures checked entered early late (premise early late like) names d.notes e.notes)
      (on_follows G a.0 b.0 x.0 y.0 f.0 g.0 (condition_follows G natures checked entered early late (premise early late like) until a.0 b.0)
      (may_follows G natures checked entered early late (premise early late like) running (Of t.Time) time x.0 y.0))

  break_follows : (elements : List BreakElement) (x : Option Expr) (early late : Scope) (n m : Notes) → Likeness early late
      → Follows G n m (break_statement checked early elements x n).0 (break_statement entered late elements x m).0
  break_follows elements x early late n m like =
      let a = break_elements checked early elements n in
      let b = break_elements entered late elements m in
      on_follows G n m a.0 b.0 (break_statement checked early elements x n).0 (break_statement entered late elements x m).0
      (breaks_follows G natures checked entered early late (premise early late like) elements n m)
      (condition_follows G natures checked entered early late (premise early late like) x a.0 b.0)

  -- ---- the induction

  abbrev seq_of : Seq-F SeqPart AlternativePart BranchPart → Seq
  seq_of y = roll-Seq (map-Seq SeqPart AlternativePart BranchPart Seq WrittenAlternative WrittenBranch (λ p. p.0) (λ p. p.0) (λ p. p.0) y)

  abbrev step_at : Setting → Seq-F Seq WrittenAlternative WrittenBranch → Reads Statement
  step_at w y = seq_step w (map-Seq Seq WrittenAlternative WrittenBranch (Reads Statement) CaseReads BranchReads (statement_of w) (alternative_of w) (branch_of w) y)

  opened : (w : Setting) (y : Seq-F Seq WrittenAlternative WrittenBranch) → statement_of w (roll-Seq y) ≡ step_at w y
  opened w y = fold-roll-Seq (Reads Statement) CaseReads BranchReads (seq_step w) (alternative_step w) (branch_step w) y

  lift : (y : Seq-F Seq WrittenAlternative WrittenBranch) → ReadsTwice (step_at checked y) (step_at entered y) → SeqFollows (roll-Seq y)
  lift y h =
      subst (λ (f : Reads Statement). ReadsTwice f (statement_of entered (roll-Seq y))) (sym (opened checked y))
      (subst (λ (g : Reads Statement). ReadsTwice (step_at checked y) g) (sym (opened entered y)) h)

  if_step : (place : Place) (all : List BranchPart) (last : Option (List SeqPart)) → SeqFollows (seq_of (Seq-F.If place all last))
  if_step place all None = lift (Seq-F.If place (map (λ (p : BranchPart). p.0) all) None) (if_follows place all None)
  if_step place all (Some last) = lift (Seq-F.If place (map (λ (p : BranchPart). p.0) all) (Some (seqs_of last))) (if_follows place all (Some last))

  seq_steps : (y : Seq-F SeqPart AlternativePart BranchPart) → SeqFollows (seq_of y)
  seq_steps (Seq-F.Signal x delay wave) = lift (Seq-F.Signal x delay wave) (signal_follows x delay wave)
  seq_steps (Seq-F.Variable x value) =
      lift (Seq-F.Variable x value)
      (λ early late s u i d e like.
      simple_follows G x.place d e d e (variable_assignment checked early x value d.notes) (variable_assignment entered late x value e.notes) (variable_follows x value early late d.notes e.notes like))
  seq_steps (Seq-F.If place all last) = if_step place all last
  seq_steps (Seq-F.Case place x all) = lift (Seq-F.Case place x (map (λ (p : AlternativePart). p.0) all)) (case_follows place x all)
  seq_steps (Seq-F.Loop place how all) =
      lift (Seq-F.Loop place how (seqs_of all))
      (λ early late s u i d e like.
      whole_follows G place d e (loop_statement checked how (readings checked all) early s i d) (loop_statement entered how (readings entered all) late u i e) (loop_follows how all early late s u i d e like))
  seq_steps (Seq-F.Exit place x) =
      lift (Seq-F.Exit place x)
      (λ early late s u i d e like. simple_follows G place d e d e _ _ (condition_follows G natures checked entered early late (premise early late like) x d.notes e.notes))
  seq_steps (Seq-F.Next place x) =
      lift (Seq-F.Next place x)
      (λ early late s u i d e like. simple_follows G place d e d e _ _ (condition_follows G natures checked entered early late (premise early late like) x d.notes e.notes))
  seq_steps (Seq-F.Wait place names until time) =
      lift (Seq-F.Wait place names until time)
      (λ early late s u i d e like.
      simple_follows G place d e (with_wait s i d) (with_wait u i e) (wait_statement checked early names until time d) (wait_statement entered late names until time e) (wait_follows names until time early late d e like))
  seq_steps (Seq-F.Assert a) =
      lift (Seq-F.Assert a)
      (λ early late s u i d e like. simple_follows G a.place d e d e _ _ (assertion_follows G natures checked entered early late (premise early late like) a d.notes e.notes))
  seq_steps (Seq-F.Report place r) =
      lift (Seq-F.Report place r) (λ early late s u i d e like. simple_follows G place d e d e _ _ (same_follows G d.notes e.notes))
  seq_steps (Seq-F.Break place elements x) =
      lift (Seq-F.Break place elements x)
      (λ early late s u i d e like.
      simple_follows G place d e d e (break_statement checked early elements x d.notes) (break_statement entered late elements x e.notes) (break_follows elements x early late d.notes e.notes like))
  seq_steps (Seq-F.Null place) = lift (Seq-F.Null place) (λ early late s u i d e like. same_follows G d.notes e.notes)

  abbrev alternative_at : Alternative-F SeqPart AlternativePart BranchPart → WrittenAlternative
  alternative_at y = roll-Alternative (map-Alternative SeqPart AlternativePart BranchPart Seq WrittenAlternative WrittenBranch (λ p. p.0) (λ p. p.0) (λ p. p.0) y)

  alternative_steps : (y : Alternative-F SeqPart AlternativePart BranchPart) → AlternativeFollows (alternative_at y)
  alternative_steps y =
      let z : Alternative-F Seq WrittenAlternative WrittenBranch = record { choices = y.choices; body = seqs_of y.body } in
      let opens = λ (w : Setting). fold-roll-Alternative (Reads Statement) CaseReads BranchReads (seq_step w) (alternative_step w) (branch_step w) z in
      subst (λ (f : CaseReads). CaseTwice f (alternative_of entered (roll-Alternative z))) (sym (opens checked))
      (subst (λ (g : CaseReads). CaseTwice (alternative_step checked (record { choices = y.choices; body = readings checked y.body })) g) (sym (opens entered))
      (alternative_follows y.choices y.body))

  abbrev branch_at : Branch-F SeqPart AlternativePart BranchPart → WrittenBranch
  branch_at y = roll-Branch (map-Branch SeqPart AlternativePart BranchPart Seq WrittenAlternative WrittenBranch (λ p. p.0) (λ p. p.0) (λ p. p.0) y)

  branch_steps : (y : Branch-F SeqPart AlternativePart BranchPart) → BranchFollows (branch_at y)
  branch_steps y =
      let z : Branch-F Seq WrittenAlternative WrittenBranch = record { condition = y.condition; body = seqs_of y.body } in
      let opens = λ (w : Setting). fold-roll-Branch (Reads Statement) CaseReads BranchReads (seq_step w) (alternative_step w) (branch_step w) z in
      subst (λ (f : BranchReads). BranchTwice f (branch_of entered (roll-Branch z))) (sym (opens checked))
      (subst (λ (g : BranchReads). BranchTwice (branch_step checked (record { condition = y.condition; body = readings checked y.body })) g) (sym (opens entered))
      (branch_follows y.condition y.body))

  statement_follows : (s : Seq) → SeqFollows s
  statement_follows =
      ind-Seq SeqFollows AlternativeFollows BranchFollows
      (λ x y is. subst (λ (z : Seq-F Seq WrittenAlternative WrittenBranch). SeqFollows (roll-Seq z)) is (seq_steps y))
      (λ x y is. subst (λ (z : Alternative-F Seq WrittenAlternative WrittenBranch). AlternativeFollows (roll-Alternative z)) is (alternative_steps y))
      (λ x y is. subst (λ (z : Branch-F Seq WrittenAlternative WrittenBranch). BranchFollows (roll-Branch z)) is (branch_steps y))

  all_follow : (all : List Seq) (early late : Scope) (s u : Spot) (i : ℕ) (d e : Draft) → Likeness early late
      → Drafts G d e (body (map (statement_of checked) all) early s i d).0 (body (map (statement_of entered) all) late u i e).0
  all_follow [] early late s u i d e like = same_follows G d.notes e.notes
  all_follow (x ∷ more) early late s u i d e like =
      let a = statement_of checked x early s i d in
      let b = statement_of entered x late u i e in
      on_follows G d.notes e.notes a.0.notes b.0.notes (body (map (statement_of checked) more) early s (i + 1) a.0).0.notes (body (map (statement_of entered) more) late u (i + 1) b.0).0.notes
      (statement_follows x early late s u i d e like) (all_follow more early late s u (i + 1) a.0 b.0 like)

pub each_body_follows : (G : Type 0) (natures : List ℕ) (v w : Setting) (c i : Scope) → BothRead G natures v w c i → (all : List Seq) (s u : Spot) (k : ℕ) (d e : Draft)
    → Drafts G d e (body (map (statement_of v) all) c s k d).0 (body (map (statement_of w) all) i u k e).0
each_body_follows G natures v w c i premise all s u k d e = all_follow G natures v w premise.reads premise.statics premise.texts all c i s u k d e premise.alike

pub bodies_follow : BodiesFollow
bodies_follow b natures v w c i premise all s u k d e = each_body_follows (IsTrue b) natures v w c i premise all s u k d e
