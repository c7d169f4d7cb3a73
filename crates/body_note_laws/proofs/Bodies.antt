-- Sequential statements, read twice, by induction on the tree.
use Rattle.std.proofs.Common.{◌≡◌, ℕ, ◌+◌, Bool, true, false, if◌then◌else◌, List, [], ◌∷◌, ◌++◌, length, map, Option, Some, None, refl, sym, ap, ◌∙◌, subst}
use Rattle.std.specs.Prelude.{nat_eq}
use Rattle.std.specs.List.{list_any}
use Rattle.ams_token.specs.declared.token.Place.{Place}
use Rattle.ams_tree.specs.declared.expression.Name.{Name}
use Rattle.ams_tree.specs.declared.expression.Expr.{Expr}
use Rattle.ams_tree.specs.declared.declaration.Range.{Range}
use Rattle.ams_tree.specs.declared.sequential.Alternative.{Alternative as WrittenAlternative}
use Rattle.ams_tree.specs.declared.sequential.Assertion.{Assertion}
use Rattle.ams_tree.specs.declared.sequential.Branch.{Branch as WrittenBranch}
use Rattle.ams_tree.specs.declared.sequential.BreakElement.{BreakElement}
use Rattle.ams_tree.specs.declared.sequential.Choice.{Choice}
use Rattle.ams_tree.specs.declared.sequential.DelayMechanism.{DelayMechanism}
use Rattle.ams_tree.specs.declared.sequential.Iteration.{Iteration}
use Rattle.ams_tree.specs.declared.sequential.Iteration.TheVariants as iteration
use Rattle.ams_tree.specs.declared.sequential.Seq.{Seq}
use Rattle.ams_tree.specs.declared.sequential.Seq.TheOpen.{Branch-F, Alternative-F, Seq-F}
use Rattle.ams_tree.specs.declared.sequential.Seq.TheViews.{roll-Seq, roll-Alternative, roll-Branch}
use Rattle.ams_tree.specs.declared.sequential.Seq.TheFolds.{map-Seq, map-Alternative, map-Branch, fold-Alternative, fold-Branch, fold-roll-Seq, fold-roll-Alternative, fold-roll-Branch, ind-Seq}
use Rattle.ams_tree.specs.declared.sequential.WaveformElement.{WaveformElement}
use Rattle.ams_value.specs.declared.value_type.ValueType.TheVariants as t
use Rattle.flat_expr.specs.declared.statement.Statement.{Statement}
use Rattle.flat_design.specs.declared.objects.Objects.{Objects}
use Rattle.flat_design.specs.declared.objects.Variable.{Variable}
use Rattle.name_scope.specs.declared.thing.Kind.{Kind}
use Rattle.name_scope.specs.declared.thing.Kind.TheVariants.{Of}
use Rattle.name_scope.specs.declared.thing.Subtype.{Subtype}
use Rattle.name_scope.specs.declared.thing.Thing.TheVariants as thing
use Rattle.name_scope.specs.declared.scope.Scope.{Scope}
use Rattle.name_scope.specs.Scopes.{lookup, inside, with_name}
use Rattle.elab_meaning.specs.declared.fault.Notes.{Notes}
use Rattle.elab_meaning.specs.declared.part.Part.{Part}
use Rattle.elab_meaning.specs.declared.part.Part.TheVariants.{Kept, Wrong, Hidden}
use Rattle.elab_meaning.specs.Expressions.{static_in}
use Rattle.elab_meaning.specs.Parts.{found_thing}
use Rattle.unit_meaning.specs.declared.draft.Draft.{Draft}
use Rattle.unit_meaning.specs.declared.draft.Seen.{Seen}
use Rattle.unit_meaning.specs.declared.draft.Spot.{Spot}
use Rattle.unit_meaning.specs.Settings.{Setting, running, typed, must_be, condition}
use Rattle.unit_meaning.specs.Waveforms.{target, mechanism, waveform, assignment}
use Rattle.unit_meaning.specs.Bare.{sensitivity, break_elements}
use Rattle.unit_meaning.specs.Cases.{choices, nothing_seen}
use Rattle.unit_meaning.specs.Sequential.{with_notes, with_driver, with_parameter, with_wait, way_to, looping, within_loop, variable_assignment, break_statement, wait_statement, Reads, CaseReads, BranchReads, body, branch_step, branches, otherwise, alternative_step, alternatives, kind_known, case_statement, loop_statement, simple, whole, driving, signal_statement, seq_step, statement_of}
use Rattle.note_laws.specs.Noting.{IsNotable, NamesAreNotable, NotesAlike}
use Rattle.note_laws.proofs.Notes.{Alike, alike_same, alike_on}
use Rattle.part_note_laws.proofs.Parts.{finished_alike, found_alike, typed_alike, must_alike, may_alike, condition_alike, sensitivity_alike, breaks_alike, assertion_alike, target_alike, mechanism_alike, waveform_alike}
use Rattle.part_note_laws.proofs.Statements.{choices_alike}
use Rattle.body_note_laws.specs.Bodies.{DraftsAlike, BodiesNoteAlike}
use Rattle.body_note_laws.proofs.Names.{named_holds, inside_holds}

pub same_before : (xs ys more : List Variable) → xs ≡ ys → xs ++ more ≡ ys ++ more
same_before xs ys more is = ap (λ (l : List Variable). l ++ more) is

module _ (objects : Objects) where
  abbrev pub Drafts : Draft → Draft → Draft → Draft → Type 0
  Drafts d e on to = DraftsAlike objects d e on to

  pub drafts_same : (d e : Draft) → d.variables ≡ e.variables → Drafts d e d e
  drafts_same d e same = record { notes = alike_same objects d.notes e.notes; variables = same }

  pub drafts_on : (d e a b on to : Draft) → Drafts d e a b → Drafts a b on to → Drafts d e on to
  drafts_on d e a b on to h g = record { notes = alike_on objects d.notes e.notes a.notes b.notes on.notes to.notes h.notes g.notes; variables = g.variables }

  pub drafts_notes : (d e : Draft) (n m : Notes) → d.variables ≡ e.variables → Alike objects d.notes e.notes n m → Drafts d e (with_notes n d) (with_notes m e)
  drafts_notes d e n m same h = record { notes = h; variables = same }

  drafts_parameter : (texts : List (List ℕ)) (x : Name) (d e : Draft) → d.variables ≡ e.variables → Drafts d e (with_parameter texts x d) (with_parameter texts x e)
  drafts_parameter texts x d e same = record { notes = alike_same objects d.notes e.notes; variables = same_before d.variables e.variables _ same }

  driver_notes : (i : ℕ) (d : Draft) → (with_driver i d).notes ≡ d.notes
  driver_notes i d = go (list_any (nat_eq i) d.drivers)
    where
      go : (b : Bool) → (if b then d else record d { drivers = d.drivers ++ i ∷ [] }).notes ≡ d.notes
      go true = refl
      go false = refl

  driver_variables : (i : ℕ) (d : Draft) → (with_driver i d).variables ≡ d.variables
  driver_variables i d = go (list_any (nat_eq i) d.drivers)
    where
      go : (b : Bool) → (if b then d else record d { drivers = d.drivers ++ i ∷ [] }).variables ≡ d.variables
      go true = refl
      go false = refl

  driving_variables : (to : Part (ℕ × Subtype)) (d : Draft) → (driving to d).variables ≡ d.variables
  driving_variables (Kept to) d = driver_variables to.0 d
  driving_variables Wrong d = refl
  driving_variables Hidden d = refl

  -- a statement that holds no others, on drafts with the same variables as those before it
  simple_alike : (place : Place) (d e a b : Draft) (f g : Notes × Part Statement) → a.variables ≡ b.variables → Alike objects d.notes e.notes f.0 g.0 → Drafts d e (simple place a f).0 (simple place b g).0
  simple_alike place d e a b f g same h = record { notes = finished_alike objects Statement place f.1 g.1 d.notes e.notes f.0 g.0 h; variables = same }

  whole_alike : (place : Place) (d e : Draft) (f g : Draft × Part Statement) → Drafts d e f.0 g.0 → Drafts d e (whole place f).0 (whole place g).0
  whole_alike place d e f g h = record { notes = finished_alike objects Statement place f.1 g.1 d.notes e.notes f.0.notes g.0.notes h.notes; variables = h.variables }

  parameter_notable : (scope : Scope) (x p : ℕ) → NamesAreNotable objects scope → NamesAreNotable objects (with_name (inside scope) x (thing.Parameter p))
  parameter_notable scope x p h = named_holds (IsNotable objects) (inside scope) x (thing.Parameter p) (inside_holds (IsNotable objects) scope h) tt

module _ (objects : Objects) (w : Setting) where
  abbrev alternative_of : WrittenAlternative → CaseReads
  alternative_of = fold-Alternative (Reads Statement) CaseReads BranchReads (seq_step w) (alternative_step w) (branch_step w)

  abbrev branch_of : WrittenBranch → BranchReads
  branch_of = fold-Branch (Reads Statement) CaseReads BranchReads (seq_step w) (alternative_step w) (branch_step w)

  abbrev ReadsTwice : Reads Statement → Type 0
  ReadsTwice f = (scope : Scope) (s u : Spot) (i : ℕ) (d e : Draft) → NamesAreNotable objects scope → d.variables ≡ e.variables → Drafts objects d e (f scope s i d).0 (f scope u i e).0

  abbrev CaseTwice : CaseReads → Type 0
  CaseTwice f = (scope : Scope) (s u : Spot) (k l : Option Kind) (a b : Seen) (d e : Draft) → NamesAreNotable objects scope → d.variables ≡ e.variables → Drafts objects d e (f scope s k a d).0 (f scope u l b e).0

  abbrev BranchTwice : BranchReads → Type 0
  BranchTwice f = (scope : Scope) (s u : Spot) (d e : Draft) → NamesAreNotable objects scope → d.variables ≡ e.variables → Drafts objects d e (f scope s d).0 (f scope u e).0

  abbrev SeqAlike : Seq → Type 0
  SeqAlike x = ReadsTwice (statement_of w x)

  abbrev AlternativeAlike : WrittenAlternative → Type 0
  AlternativeAlike x = CaseTwice (alternative_of x)

  abbrev BranchAlike : WrittenBranch → Type 0
  BranchAlike x = BranchTwice (branch_of x)

  abbrev SeqPart : Type 0
  SeqPart = (s : Seq) × SeqAlike s

  abbrev AlternativePart : Type 0
  AlternativePart = (a : WrittenAlternative) × AlternativeAlike a

  abbrev BranchPart : Type 0
  BranchPart = (b : WrittenBranch) × BranchAlike b

  abbrev seqs_of : List SeqPart → List Seq
  seqs_of all = map (λ (p : SeqPart). p.0) all

  abbrev readings : List SeqPart → List (Reads Statement)
  readings all = map (statement_of w) (seqs_of all)

  abbrev branch_readings : List BranchPart → List BranchReads
  branch_readings all = map branch_of (map (λ (p : BranchPart). p.0) all)

  abbrev case_readings : List AlternativePart → List CaseReads
  case_readings all = map alternative_of (map (λ (p : AlternativePart). p.0) all)

  -- ---- lists

  body_alike : (all : List SeqPart) (scope : Scope) (s u : Spot) (i : ℕ) (d e : Draft) → NamesAreNotable objects scope → d.variables ≡ e.variables
      → Drafts objects d e (body (readings all) scope s i d).0 (body (readings all) scope u i e).0
  body_alike [] scope s u i d e notable same = drafts_same objects d e same
  body_alike (p ∷ more) scope s u i d e notable same =
      let a = statement_of w p.0 scope s i d in
      let b = statement_of w p.0 scope u i e in
      let first : Drafts objects d e a.0 b.0 = p.1 scope s u i d e notable same in
      drafts_on objects d e a.0 b.0 (body (readings more) scope s (i + 1) a.0).0 (body (readings more) scope u (i + 1) b.0).0 first (body_alike more scope s u (i + 1) a.0 b.0 notable first.variables)

  branches_alike : (all : List BranchPart) (scope : Scope) (s u : Spot) (i k : ℕ) (d e : Draft) → NamesAreNotable objects scope → d.variables ≡ e.variables
      → Drafts objects d e (branches (branch_readings all) scope s i k d).0 (branches (branch_readings all) scope u i k e).0
  branches_alike [] scope s u i k d e notable same = drafts_same objects d e same
  branches_alike (p ∷ more) scope s u i k d e notable same =
      let a = branch_of p.0 scope (way_to s i k) d in
      let b = branch_of p.0 scope (way_to u i k) e in
      let first : Drafts objects d e a.0 b.0 = p.1 scope (way_to s i k) (way_to u i k) d e notable same in
      drafts_on objects d e a.0 b.0 (branches (branch_readings more) scope s i (k + 1) a.0).0 (branches (branch_readings more) scope u i (k + 1) b.0).0 first (branches_alike more scope s u i (k + 1) a.0 b.0 notable first.variables)

  alternatives_alike : (all : List AlternativePart) (scope : Scope) (s u : Spot) (i k : ℕ) (x y : Option Kind) (m n : Seen) (d e : Draft) → NamesAreNotable objects scope → d.variables ≡ e.variables
      → Drafts objects d e (alternatives (case_readings all) scope s i k x m d).0 (alternatives (case_readings all) scope u i k y n e).0
  alternatives_alike [] scope s u i k x y m n d e notable same = drafts_same objects d e same
  alternatives_alike (p ∷ more) scope s u i k x y m n d e notable same =
      let a = alternative_of p.0 scope (way_to s i k) x m d in
      let b = alternative_of p.0 scope (way_to u i k) y n e in
      let first : Drafts objects d e a.0 b.0 = p.1 scope (way_to s i k) (way_to u i k) x y m n d e notable same in
      drafts_on objects d e a.0 b.0 (alternatives (case_readings more) scope s i (k + 1) x a.1.0 a.0).0 (alternatives (case_readings more) scope u i (k + 1) y b.1.0 b.0).0 first
      (alternatives_alike more scope s u i (k + 1) x y a.1.0 b.1.0 a.0 b.0 notable first.variables)

  -- ---- parts of statements

  branch_alike : (x : Expr) (all : List SeqPart) → BranchTwice (branch_step w (record { condition = x; body = readings all }))
  branch_alike x all scope s u d e notable same =
      let a = must_be w scope running (Of t.Boolean) x d.notes in
      let b = must_be w scope running (Of t.Boolean) x e.notes in
      drafts_on objects d e (with_notes a.0 d) (with_notes b.0 e) (body (readings all) scope s 0 (with_notes a.0 d)).0 (body (readings all) scope u 0 (with_notes b.0 e)).0
      (drafts_notes objects d e a.0 b.0 same (must_alike objects w scope notable running (Of t.Boolean) x d.notes e.notes))
      (body_alike all scope s u 0 (with_notes a.0 d) (with_notes b.0 e) notable same)

  alternative_alike : (cs : List Choice) (all : List SeqPart) → CaseTwice (alternative_step w (record { choices = cs; body = readings all }))
  alternative_alike cs all scope s u k l m n d e notable same =
      let a = choices w scope (static_in running) k m cs d.notes in
      let b = choices w scope (static_in running) l n cs e.notes in
      drafts_on objects d e (with_notes a.0 d) (with_notes b.0 e) (body (readings all) scope s 0 (with_notes a.0 d)).0 (body (readings all) scope u 0 (with_notes b.0 e)).0
      (drafts_notes objects d e a.0 b.0 same (choices_alike objects w scope notable (static_in running) k l m n cs d.notes e.notes))
      (body_alike all scope s u 0 (with_notes a.0 d) (with_notes b.0 e) notable same)

  abbrev last_readings : Option (List SeqPart) → Option (List (Reads Statement))
  last_readings None = None
  last_readings (Some all) = Some (readings all)

  otherwise_alike : (all : Option (List SeqPart)) (scope : Scope) (s u : Spot) (d e : Draft) → NamesAreNotable objects scope → d.variables ≡ e.variables
      → Drafts objects d e (otherwise (last_readings all) scope s d).0 (otherwise (last_readings all) scope u e).0
  otherwise_alike None scope s u d e notable same = drafts_same objects d e same
  otherwise_alike (Some all) scope s u d e notable same = body_alike all scope s u 0 d e notable same

  -- ---- statements

  if_alike : (place : Place) (all : List BranchPart) (last : Option (List SeqPart)) → ReadsTwice (seq_step w (Seq-F.If place (branch_readings all) (last_readings last)))
  if_alike place all last scope s u i d e notable same =
      let k = length (branch_readings all) in
      let a = branches (branch_readings all) scope s i 0 d in
      let b = branches (branch_readings all) scope u i 0 e in
      let x = otherwise (last_readings last) scope (way_to s i k) a.0 in
      let y = otherwise (last_readings last) scope (way_to u i k) b.0 in
      let first : Drafts objects d e a.0 b.0 = branches_alike all scope s u i 0 d e notable same in
      whole_alike objects place d e (x.0, _) (y.0, _) (drafts_on objects d e a.0 b.0 x.0 y.0 first (otherwise_alike last scope (way_to s i k) (way_to u i k) a.0 b.0 notable first.variables))

  case_alike : (place : Place) (x : Expr) (all : List AlternativePart) → ReadsTwice (seq_step w (Seq-F.Case place x (case_readings all)))
  case_alike place x all scope s u i d e notable same =
      let a = typed w scope running x d.notes in
      let b = typed w scope running x e.notes in
      whole_alike objects place d e (case_statement w x (case_readings all) scope s i d) (case_statement w x (case_readings all) scope u i e)
      (drafts_on objects d e (with_notes a.0 d) (with_notes b.0 e) (alternatives (case_readings all) scope s i 0 (kind_known a.1) nothing_seen (with_notes a.0 d)).0 (alternatives (case_readings all) scope u i 0 (kind_known b.1) nothing_seen (with_notes b.0 e)).0
      (drafts_notes objects d e a.0 b.0 same (typed_alike objects w scope notable running x d.notes e.notes))
      (alternatives_alike all scope s u i 0 (kind_known a.1) (kind_known b.1) nothing_seen nothing_seen (with_notes a.0 d) (with_notes b.0 e) notable same))

  loop_alike : (how : Iteration) (all : List SeqPart) → ReadsTwice (loop_statement w how (readings all))
  loop_alike iteration.Endless all scope s u i d e notable same = body_alike all scope (looping s i) (looping u i) 0 d e notable same
  loop_alike (iteration.While x) all scope s u i d e notable same =
      let a = must_be w scope running (Of t.Boolean) x d.notes in
      let b = must_be w scope running (Of t.Boolean) x e.notes in
      drafts_on objects d e (with_notes a.0 d) (with_notes b.0 e) (body (readings all) scope (looping s i) 0 (with_notes a.0 d)).0 (body (readings all) scope (looping u i) 0 (with_notes b.0 e)).0
      (drafts_notes objects d e a.0 b.0 same (must_alike objects w scope notable running (Of t.Boolean) x d.notes e.notes))
      (body_alike all scope (looping s i) (looping u i) 0 (with_notes a.0 d) (with_notes b.0 e) notable same)
  loop_alike (iteration.For x range) all scope s u i d e notable same =
      let left = must_be w scope running (Of t.Integer) range.left d.notes in
      let other = must_be w scope running (Of t.Integer) range.left e.notes in
      let right = must_be w scope running (Of t.Integer) range.right left.0 in
      let far = must_be w scope running (Of t.Integer) range.right other.0 in
      let p = length d.variables in
      let q = length e.variables in
      let a = with_notes right.0 d in
      let b = with_notes far.0 e in
      let on = with_parameter w.texts x a in
      let to = with_parameter w.texts x b in
      let inner = with_name (inside scope) x.number (thing.Parameter p) in
      let more : Drafts objects a b on to = drafts_parameter objects w.texts x a b same in
      let rest : Drafts objects on to (body (readings all) inner (within_loop s i p) 0 on).0 (body (readings all) inner (within_loop u i q) 0 to).0 =
      body_alike all inner (within_loop s i p) (within_loop u i q) 0 on to (parameter_notable objects scope x.number p notable) more.variables in
      let numbered : p ≡ q = ap (λ (l : List Variable). length l) same in
      drafts_on objects d e a b (body (readings all) inner (within_loop s i p) 0 on).0 (body (readings all) (with_name (inside scope) x.number (thing.Parameter q)) (within_loop u i q) 0 to).0
      (drafts_notes objects d e right.0 far.0 same
      (alike_on objects d.notes e.notes left.0 other.0 right.0 far.0 (must_alike objects w scope notable running (Of t.Integer) range.left d.notes e.notes)
      (must_alike objects w scope notable running (Of t.Integer) range.right left.0 other.0)))
      (drafts_on objects a b on to (body (readings all) inner (within_loop s i p) 0 on).0 (body (readings all) (with_name (inside scope) x.number (thing.Parameter q)) (within_loop u i q) 0 to).0 more
      (subst (λ (z : ℕ). Drafts objects on to (body (readings all) inner (within_loop s i p) 0 on).0 (body (readings all) (with_name (inside scope) x.number (thing.Parameter z)) (within_loop u i q) 0 to).0) numbered rest))

  assignment_alike : (scope : Scope) (to from : Part (ℕ × Subtype)) (delay : Option DelayMechanism) (xs : List WaveformElement) (n m : Notes) → NamesAreNotable objects scope
      → Alike objects n m (assignment w scope to delay xs n).0 (assignment w scope from delay xs m).0
  assignment_alike scope to from delay xs n m notable =
      let a = mechanism w scope delay n in
      let b = mechanism w scope delay m in
      alike_on objects n m a.0 b.0 (waveform w scope to xs a.0).0 (waveform w scope from xs b.0).0 (mechanism_alike objects w scope notable delay n m) (waveform_alike objects w scope notable to from xs a.0 b.0)

  signal_alike : (x : Name) (delay : Option DelayMechanism) (wave : List WaveformElement) → ReadsTwice (signal_statement w x delay wave)
  signal_alike x delay wave scope s u i d e notable same =
      let a = target scope x d.notes in
      let b = target scope x e.notes in
      let f = assignment w scope a.1 delay wave a.0 in
      let g = assignment w scope b.1 delay wave b.0 in
      simple_alike objects x.place d e (driving a.1 d) (driving b.1 e) f g (driving_variables objects a.1 d ∙ (same ∙ sym (driving_variables objects b.1 e)))
      (alike_on objects d.notes e.notes a.0 b.0 f.0 g.0 (target_alike objects w scope notable x d.notes e.notes) (assignment_alike scope a.1 b.1 delay wave a.0 b.0 notable))

  variable_alike : (x : Name) (value : Expr) (scope : Scope) (n m : Notes) → NamesAreNotable objects scope → Alike objects n m (variable_assignment w scope x value n).0 (variable_assignment w scope x value m).0
  variable_alike x value scope n m notable =
      let f = found_thing x (lookup scope x.number) n in
      let g = found_thing x (lookup scope x.number) m in
      alike_on objects n m f.0 g.0 (variable_assignment w scope x value n).0 (variable_assignment w scope x value m).0 (found_alike objects x (lookup scope x.number) n m) (typed_alike objects w scope notable running value f.0 g.0)

  wait_alike : (names : List Expr) (until time : Option Expr) (scope : Scope) (d e : Draft) → NamesAreNotable objects scope
      → Alike objects d.notes e.notes (wait_statement w scope names until time d).0 (wait_statement w scope names until time e).0
  wait_alike names until time scope d e notable =
      let a = sensitivity w scope names d.notes in
      let b = sensitivity w scope names e.notes in
      let x = condition w scope until a.0 in
      let y = condition w scope until b.0 in
      alike_on objects d.notes e.notes a.0 b.0 (wait_statement w scope names until time d).0 (wait_statement w scope names until time e).0 (sensitivity_alike objects w scope notable names d.notes e.notes)
      (alike_on objects a.0 b.0 x.0 y.0 (wait_statement w scope names until time d).0 (wait_statement w scope names until time e).0 (condition_alike objects w scope notable until a.0 b.0)
      (may_alike objects w scope notable running (Of t.Time) time x.0 y.0))

  break_alike : (elements : List BreakElement) (x : Option Expr) (scope : Scope) (n m : Notes) → NamesAreNotable objects scope
      → Alike objects n m (break_statement w scope elements x n).0 (break_statement w scope elements x m).0
  break_alike elements x scope n m notable =
      let a = break_elements w scope elements n in
      let b = break_elements w scope elements m in
      alike_on objects n m a.0 b.0 (break_statement w scope elements x n).0 (break_statement w scope elements x m).0 (breaks_alike objects w scope notable elements n m) (condition_alike objects w scope notable x a.0 b.0)

  -- ---- the induction

  abbrev seq_of : Seq-F SeqPart AlternativePart BranchPart → Seq
  seq_of y = roll-Seq (map-Seq SeqPart AlternativePart BranchPart Seq WrittenAlternative WrittenBranch (λ p. p.0) (λ p. p.0) (λ p. p.0) y)

  lift : (y : Seq-F Seq WrittenAlternative WrittenBranch) (f : Reads Statement) → statement_of w (roll-Seq y) ≡ f → ReadsTwice f → SeqAlike (roll-Seq y)
  lift y f e h = subst ReadsTwice (sym e) h

  opened : (y : Seq-F Seq WrittenAlternative WrittenBranch)
      → statement_of w (roll-Seq y) ≡ seq_step w (map-Seq Seq WrittenAlternative WrittenBranch (Reads Statement) CaseReads BranchReads (statement_of w) alternative_of branch_of y)
  opened y = fold-roll-Seq (Reads Statement) CaseReads BranchReads (seq_step w) (alternative_step w) (branch_step w) y

  if_step : (place : Place) (all : List BranchPart) (last : Option (List SeqPart)) → SeqAlike (seq_of (Seq-F.If place all last))
  if_step place all None =
      lift (Seq-F.If place (map (λ (p : BranchPart). p.0) all) None) (seq_step w (Seq-F.If place (branch_readings all) None)) (opened (Seq-F.If place (map (λ (p : BranchPart). p.0) all) None))
      (if_alike place all None)
  if_step place all (Some last) =
      lift (Seq-F.If place (map (λ (p : BranchPart). p.0) all) (Some (seqs_of last))) (seq_step w (Seq-F.If place (branch_readings all) (last_readings (Some last))))
      (opened (Seq-F.If place (map (λ (p : BranchPart). p.0) all) (Some (seqs_of last))))
      (if_alike place all (Some last))

  seq_steps : (y : Seq-F SeqPart AlternativePart BranchPart) → SeqAlike (seq_of y)
  seq_steps (Seq-F.Signal x delay wave) =
      lift (Seq-F.Signal x delay wave) (seq_step w (Seq-F.Signal x delay wave)) (opened (Seq-F.Signal x delay wave)) (signal_alike x delay wave)
  seq_steps (Seq-F.Variable x value) =
      lift (Seq-F.Variable x value) (seq_step w (Seq-F.Variable x value)) (opened (Seq-F.Variable x value))
      (λ scope s u i d e notable same. simple_alike objects x.place d e d e (variable_assignment w scope x value d.notes) (variable_assignment w scope x value e.notes) same (variable_alike x value scope d.notes e.notes notable))
  seq_steps (Seq-F.If place all last) = if_step place all last
  seq_steps (Seq-F.Case place x all) =
      lift (Seq-F.Case place x (map (λ (p : AlternativePart). p.0) all)) (seq_step w (Seq-F.Case place x (case_readings all))) (opened (Seq-F.Case place x (map (λ (p : AlternativePart). p.0) all)))
      (case_alike place x all)
  seq_steps (Seq-F.Loop place how all) =
      lift (Seq-F.Loop place how (seqs_of all)) (seq_step w (Seq-F.Loop place how (readings all))) (opened (Seq-F.Loop place how (seqs_of all)))
      (λ scope s u i d e notable same. whole_alike objects place d e (loop_statement w how (readings all) scope s i d) (loop_statement w how (readings all) scope u i e) (loop_alike how all scope s u i d e notable same))
  seq_steps (Seq-F.Exit place x) =
      lift (Seq-F.Exit place x) (seq_step w (Seq-F.Exit place x)) (opened (Seq-F.Exit place x))
      (λ scope s u i d e notable same. simple_alike objects place d e d e _ _ same (condition_alike objects w scope notable x d.notes e.notes))
  seq_steps (Seq-F.Next place x) =
      lift (Seq-F.Next place x) (seq_step w (Seq-F.Next place x)) (opened (Seq-F.Next place x))
      (λ scope s u i d e notable same. simple_alike objects place d e d e _ _ same (condition_alike objects w scope notable x d.notes e.notes))
  seq_steps (Seq-F.Wait place names until time) =
      lift (Seq-F.Wait place names until time) (seq_step w (Seq-F.Wait place names until time)) (opened (Seq-F.Wait place names until time))
      (λ scope s u i d e notable same.
      simple_alike objects place d e (with_wait s i d) (with_wait u i e) (wait_statement w scope names until time d) (wait_statement w scope names until time e) same (wait_alike names until time scope d e notable))
  seq_steps (Seq-F.Assert a) =
      lift (Seq-F.Assert a) (seq_step w (Seq-F.Assert a)) (opened (Seq-F.Assert a))
      (λ scope s u i d e notable same. simple_alike objects a.place d e d e _ _ same (assertion_alike objects w scope notable a d.notes e.notes))
  seq_steps (Seq-F.Report place r) =
      lift (Seq-F.Report place r) (seq_step w (Seq-F.Report place r)) (opened (Seq-F.Report place r))
      (λ scope s u i d e notable same. simple_alike objects place d e d e _ _ same (alike_same objects d.notes e.notes))
  seq_steps (Seq-F.Break place elements x) =
      lift (Seq-F.Break place elements x) (seq_step w (Seq-F.Break place elements x)) (opened (Seq-F.Break place elements x))
      (λ scope s u i d e notable same. simple_alike objects place d e d e (break_statement w scope elements x d.notes) (break_statement w scope elements x e.notes) same (break_alike elements x scope d.notes e.notes notable))
  seq_steps (Seq-F.Null place) =
      lift (Seq-F.Null place) (seq_step w (Seq-F.Null place)) (opened (Seq-F.Null place)) (λ scope s u i d e notable same. drafts_same objects d e same)

  abbrev alternative_at : Alternative-F SeqPart AlternativePart BranchPart → WrittenAlternative
  alternative_at y = roll-Alternative (map-Alternative SeqPart AlternativePart BranchPart Seq WrittenAlternative WrittenBranch (λ p. p.0) (λ p. p.0) (λ p. p.0) y)

  alternative_steps : (y : Alternative-F SeqPart AlternativePart BranchPart) → AlternativeAlike (alternative_at y)
  alternative_steps y =
      subst CaseTwice (sym (fold-roll-Alternative (Reads Statement) CaseReads BranchReads (seq_step w) (alternative_step w) (branch_step w) (record { choices = y.choices; body = seqs_of y.body })))
      (alternative_alike y.choices y.body)

  abbrev branch_at : Branch-F SeqPart AlternativePart BranchPart → WrittenBranch
  branch_at y = roll-Branch (map-Branch SeqPart AlternativePart BranchPart Seq WrittenAlternative WrittenBranch (λ p. p.0) (λ p. p.0) (λ p. p.0) y)

  branch_steps : (y : Branch-F SeqPart AlternativePart BranchPart) → BranchAlike (branch_at y)
  branch_steps y =
      subst BranchTwice (sym (fold-roll-Branch (Reads Statement) CaseReads BranchReads (seq_step w) (alternative_step w) (branch_step w) (record { condition = y.condition; body = seqs_of y.body })))
      (branch_alike y.condition y.body)

  pub statement_alike : (s : Seq) → SeqAlike s
  statement_alike =
      ind-Seq SeqAlike AlternativeAlike BranchAlike
      (λ x y is. subst (λ (z : Seq-F Seq WrittenAlternative WrittenBranch). SeqAlike (roll-Seq z)) is (seq_steps y))
      (λ x y is. subst (λ (z : Alternative-F Seq WrittenAlternative WrittenBranch). AlternativeAlike (roll-Alternative z)) is (alternative_steps y))
      (λ x y is. subst (λ (z : Branch-F Seq WrittenAlternative WrittenBranch). BranchAlike (roll-Branch z)) is (branch_steps y))

  pub all_alike : (all : List Seq) (scope : Scope) (s u : Spot) (i : ℕ) (d e : Draft) → NamesAreNotable objects scope → d.variables ≡ e.variables
      → Drafts objects d e (body (map (statement_of w) all) scope s i d).0 (body (map (statement_of w) all) scope u i e).0
  all_alike [] scope s u i d e notable same = drafts_same objects d e same
  all_alike (x ∷ more) scope s u i d e notable same =
      let a = statement_of w x scope s i d in
      let b = statement_of w x scope u i e in
      let first : Drafts objects d e a.0 b.0 = statement_alike x scope s u i d e notable same in
      drafts_on objects d e a.0 b.0 (body (map (statement_of w) more) scope s (i + 1) a.0).0 (body (map (statement_of w) more) scope u (i + 1) b.0).0 first (all_alike more scope s u (i + 1) a.0 b.0 notable first.variables)

pub bodies_note_alike : BodiesNoteAlike
bodies_note_alike objects w all scope spot i d e notable same = all_alike objects w all scope spot spot i d e notable same
