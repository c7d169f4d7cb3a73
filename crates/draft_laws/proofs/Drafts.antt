-- Each statement only adds to the draft of its process.
use Rattle.std.proofs.Common.{◌≡◌, ℕ, zero, suc, arith, ◌+◌, Bool, true, false, if◌then◌else◌, List, [], ◌∷◌, ◌++◌, length, map, append_assoc, append-nil, Option, Some, None, refl, sym, ap, ◌∙◌, subst}
use Rattle.std.specs.Prelude.{nat_eq}
use Rattle.std.specs.List.{All, list_any}
use Rattle.std.proofs.lemmas.List.Elements.{All-append, All-nil}
use Rattle.ams_token.specs.declared.token.Place.{Place}
use Rattle.ams_tree.specs.declared.expression.Name.{Name}
use Rattle.ams_tree.specs.declared.expression.Expr.{Expr}
use Rattle.ams_tree.specs.declared.sequential.Alternative.{Alternative as WrittenAlternative}
use Rattle.ams_tree.specs.declared.sequential.Branch.{Branch as WrittenBranch}
use Rattle.ams_tree.specs.declared.sequential.BreakElement.{BreakElement}
use Rattle.ams_tree.specs.declared.sequential.Choice.{Choice}
use Rattle.ams_tree.specs.declared.sequential.DelayMechanism.{DelayMechanism}
use Rattle.ams_tree.specs.declared.sequential.Iteration.{Iteration}
use Rattle.ams_tree.specs.declared.sequential.Iteration.TheVariants as iteration
use Rattle.ams_tree.specs.declared.sequential.Seq.{Seq}
use Rattle.ams_tree.specs.declared.sequential.Seq.TheOpen.{Branch-F, Alternative-F, Seq-F}
use Rattle.ams_tree.specs.declared.sequential.Seq.TheViews.{roll-Seq, roll-Alternative, roll-Branch}
use Rattle.ams_tree.specs.declared.sequential.Seq.TheFolds.{map-Seq, map-Alternative, map-Branch, fold-roll-Seq, fold-roll-Alternative, fold-roll-Branch, ind-Seq, ind-Alternative, ind-Branch}
use Rattle.ams_tree.specs.declared.sequential.WaveformElement.{WaveformElement}
use Rattle.ams_value.specs.declared.value_type.ValueType.TheVariants as t
use Rattle.flat_expr.specs.declared.statement.Statement.{Statement}
use Rattle.flat_design.specs.declared.objects.Variable.{Variable}
use Rattle.flat_design.specs.declared.objects.WaitPlace.{WaitPlace}
use Rattle.name_scope.specs.declared.thing.Kind.{Kind}
use Rattle.name_scope.specs.declared.thing.Kind.TheVariants.{Of}
use Rattle.name_scope.specs.declared.thing.Subtype.{Subtype}
use Rattle.name_scope.specs.declared.thing.Thing.TheVariants as thing
use Rattle.name_scope.specs.declared.scope.Scope.{Scope}
use Rattle.name_scope.specs.Scopes.{lookup, inside, with_name}
use Rattle.elab_meaning.specs.declared.fault.Notes.{Notes}
use Rattle.elab_meaning.specs.declared.part.Part.{Part}
use Rattle.elab_meaning.specs.declared.part.Part.TheVariants.{Kept, Wrong, Hidden}
use Rattle.elab_meaning.specs.Notes.{text_of}
use Rattle.elab_meaning.specs.Expressions.{static_in}
use Rattle.elab_meaning.specs.Parts.{closed, found_thing}
use Rattle.unit_meaning.specs.declared.draft.Draft.{Draft}
use Rattle.unit_meaning.specs.declared.draft.Seen.{Seen}
use Rattle.unit_meaning.specs.declared.draft.Spot.{Spot}
use Rattle.unit_meaning.specs.Settings.{Setting, running, typed, must_be, condition}
use Rattle.unit_meaning.specs.Waveforms.{target, assignment}
use Rattle.unit_meaning.specs.Bare.{sensitivity, break_elements}
use Rattle.unit_meaning.specs.Cases.{choices, nothing_seen}
use Rattle.unit_meaning.specs.Sequential.{with_notes, with_driver, with_parameter, with_wait, way_to, looping, within_loop, variable_assignment, break_statement, wait_statement, Reads, CaseReads, BranchReads, body, branch_step, branches, otherwise, alternative_step, alternatives, kind_known, case_statement, loop_statement, simple, whole, driving, signal_statement, seq_step, statement_of}
use Rattle.reading_laws.specs.Growing.{Extends, Grows}
use Rattle.reading_laws.proofs.Growing.{grows_same, grows_on}
use Rattle.reading_laws.proofs.Reading.{reading_adds_notes}
use Rattle.draft_laws.specs.Drafts.{loop_parameter, IsLoopParameter, DraftGrows, alternative_of, branch_of, StatementsAdd}
use Rattle.draft_laws.proofs.Notes.{grows_closed, grows_found, grows_must, grows_may, grows_target, grows_assignment, grows_sensitivity, grows_breaks, grows_choices}

-- ---- lists

abbrev pub extends_same : (A : Type 0) (xs : List A) → Extends A xs xs
extends_same A xs = record { more = []; whole = sym (append-nil xs) }

abbrev pub extends_one : (A : Type 0) (xs : List A) (x : A) → Extends A xs (xs ++ x ∷ [])
extends_one A xs x = record { more = x ∷ []; whole = refl }

abbrev pub extends_on : (A : Type 0) (xs ys zs : List A) → Extends A xs ys → Extends A ys zs → Extends A xs zs
extends_on A xs ys zs p q =
    record { more = p.more ++ q.more; whole = q.whole ∙ (ap (λ (l : List A). l ++ q.more) p.whole ∙ append_assoc xs p.more q.more) }

-- ---- drafts

pub draft_same : (d : Draft) → DraftGrows d d
draft_same d = record { notes = grows_same d.notes; variables = extends_same Variable d.variables; parameters = All-nil IsLoopParameter; drivers = extends_same ℕ d.drivers; waits = extends_same WaitPlace d.waits }

pub draft_on : (a b c : Draft) → DraftGrows a b → DraftGrows b c → DraftGrows a c
draft_on a b c p q =
    record {
      notes = grows_on a.notes b.notes c.notes p.notes q.notes;
      variables = extends_on Variable a.variables b.variables c.variables p.variables q.variables;
      parameters = All-append IsLoopParameter p.variables.more q.variables.more p.parameters q.parameters;
      drivers = extends_on ℕ a.drivers b.drivers c.drivers p.drivers q.drivers;
      waits = extends_on WaitPlace a.waits b.waits c.waits p.waits q.waits;
    }

pub draft_notes : (d : Draft) (n : Notes) → Grows d.notes n → DraftGrows d (with_notes n d)
draft_notes d n h = record { notes = h; variables = extends_same Variable d.variables; parameters = All-nil IsLoopParameter; drivers = extends_same ℕ d.drivers; waits = extends_same WaitPlace d.waits }

one_parameter : (name : List ℕ) → All IsLoopParameter (loop_parameter name ∷ [])
one_parameter name zero d lt = (name, refl)
one_parameter name (suc i) d lt = absurd (omega arith)

pub draft_parameter : (texts : List (List ℕ)) (x : Name) (d : Draft) → DraftGrows d (with_parameter texts x d)
draft_parameter texts x d = record { notes = grows_same d.notes; variables = extends_one Variable d.variables (loop_parameter (text_of texts x.number)); parameters = one_parameter (text_of texts x.number); drivers = extends_same ℕ d.drivers; waits = extends_same WaitPlace d.waits }

pub draft_wait : (spot : Spot) (i : ℕ) (d : Draft) → DraftGrows d (with_wait spot i d)
draft_wait spot i d = record { notes = grows_same d.notes; variables = extends_same Variable d.variables; parameters = All-nil IsLoopParameter; drivers = extends_same ℕ d.drivers; waits = extends_one WaitPlace d.waits _ }

pub draft_driver : (i : ℕ) (d : Draft) → DraftGrows d (with_driver i d)
draft_driver i d = go (list_any (nat_eq i) d.drivers)
  where
    go : (b : Bool) → DraftGrows d (if b then d else record d { drivers = d.drivers ++ i ∷ [] })
    go true = draft_same d
    go false = record { notes = grows_same d.notes; variables = extends_same Variable d.variables; parameters = All-nil IsLoopParameter; drivers = extends_one ℕ d.drivers i; waits = extends_same WaitPlace d.waits }

draft_driving : (to : Part (ℕ × Subtype)) (d : Draft) → DraftGrows d (driving to d)
draft_driving (Kept to) d = draft_driver to.0 d
draft_driving Wrong d = draft_same d
draft_driving Hidden d = draft_same d

simple_grows : (place : Place) (a d : Draft) (found : Notes × Part Statement) → DraftGrows a d → Grows a.notes found.0 → DraftGrows a (simple place d found).0
simple_grows place a d found h g =
    record { notes = grows_on a.notes found.0 (closed place found.1 found.0) g (grows_closed Statement place found.1 found.0); variables = h.variables; parameters = h.parameters; drivers = h.drivers; waits = h.waits }

whole_grows : (place : Place) (d : Draft) (found : Draft × Part Statement) → DraftGrows d found.0 → DraftGrows d (whole place found).0
whole_grows place d found h =
    draft_on d found.0 (with_notes (closed place found.1 found.0.notes) found.0) h
    (draft_notes found.0 (closed place found.1 found.0.notes) (grows_closed Statement place found.1 found.0.notes))

module _ (w : Setting) where
  abbrev SeqGrows : Seq → Type 0
  SeqGrows s = (scope : Scope) (spot : Spot) (i : ℕ) (d : Draft) → DraftGrows d (statement_of w s scope spot i d).0

  abbrev AlternativeGrows : WrittenAlternative → Type 0
  AlternativeGrows a = (scope : Scope) (spot : Spot) (k : Option Kind) (seen : Seen) (d : Draft) → DraftGrows d (alternative_of w a scope spot k seen d).0

  abbrev BranchGrows : WrittenBranch → Type 0
  BranchGrows b = (scope : Scope) (spot : Spot) (d : Draft) → DraftGrows d (branch_of w b scope spot d).0

  abbrev SeqPart : Type 0
  SeqPart = (s : Seq) × SeqGrows s

  abbrev AlternativePart : Type 0
  AlternativePart = (a : WrittenAlternative) × AlternativeGrows a

  abbrev BranchPart : Type 0
  BranchPart = (b : WrittenBranch) × BranchGrows b

  abbrev seqs_of : List SeqPart → List Seq
  seqs_of all = map (λ (p : SeqPart). p.0) all

  abbrev readings : List SeqPart → List (Reads Statement)
  readings all = map (statement_of w) (seqs_of all)

  abbrev branch_readings : List BranchPart → List BranchReads
  branch_readings all = map (branch_of w) (map (λ (p : BranchPart). p.0) all)

  abbrev case_readings : List AlternativePart → List CaseReads
  case_readings all = map (alternative_of w) (map (λ (p : AlternativePart). p.0) all)

  -- ---- lists

  body_grows : (all : List SeqPart) (scope : Scope) (spot : Spot) (i : ℕ) (d : Draft) → DraftGrows d (body (readings all) scope spot i d).0
  body_grows [] scope spot i d = draft_same d
  body_grows (p ∷ more) scope spot i d =
      let first = statement_of w p.0 scope spot i d in
      draft_on d first.0 (body (readings more) scope spot (i + 1) first.0).0 (p.1 scope spot i d) (body_grows more scope spot (i + 1) first.0)

  branches_grow : (all : List BranchPart) (scope : Scope) (spot : Spot) (i k : ℕ) (d : Draft) → DraftGrows d (branches (branch_readings all) scope spot i k d).0
  branches_grow [] scope spot i k d = draft_same d
  branches_grow (p ∷ more) scope spot i k d =
      let first = branch_of w p.0 scope (way_to spot i k) d in
      draft_on d first.0 (branches (branch_readings more) scope spot i (k + 1) first.0).0 (p.1 scope (way_to spot i k) d) (branches_grow more scope spot i (k + 1) first.0)

  alternatives_grow : (all : List AlternativePart) (scope : Scope) (spot : Spot) (i b : ℕ) (k : Option Kind) (seen : Seen) (d : Draft)
      → DraftGrows d (alternatives (case_readings all) scope spot i b k seen d).0
  alternatives_grow [] scope spot i b k seen d = draft_same d
  alternatives_grow (p ∷ more) scope spot i b k seen d =
      let first = alternative_of w p.0 scope (way_to spot i b) k seen d in
      draft_on d first.0 (alternatives (case_readings more) scope spot i (b + 1) k first.1.0 first.0).0 (p.1 scope (way_to spot i b) k seen d)
      (alternatives_grow more scope spot i (b + 1) k first.1.0 first.0)

  -- ---- parts of statements

  branch_grows : (x : Expr) (all : List SeqPart) (scope : Scope) (spot : Spot) (d : Draft)
      → DraftGrows d (branch_step w (record { condition = x; body = readings all }) scope spot d).0
  branch_grows x all scope spot d =
      let c = must_be w scope running (Of t.Boolean) x d.notes in
      draft_on d (with_notes c.0 d) (body (readings all) scope spot 0 (with_notes c.0 d)).0 (draft_notes d c.0 (grows_must w scope running (Of t.Boolean) x d.notes))
      (body_grows all scope spot 0 (with_notes c.0 d))

  alternative_grows : (cs : List Choice) (all : List SeqPart) (scope : Scope) (spot : Spot) (k : Option Kind) (seen : Seen) (d : Draft)
      → DraftGrows d (alternative_step w (record { choices = cs; body = readings all }) scope spot k seen d).0
  alternative_grows cs all scope spot k seen d =
      let c = choices w scope (static_in running) k seen cs d.notes in
      draft_on d (with_notes c.0 d) (body (readings all) scope spot 0 (with_notes c.0 d)).0 (draft_notes d c.0 (grows_choices w scope (static_in running) k seen cs d.notes))
      (body_grows all scope spot 0 (with_notes c.0 d))

  abbrev last_readings : Option (List SeqPart) → Option (List (Reads Statement))
  last_readings None = None
  last_readings (Some all) = Some (readings all)

  otherwise_grows : (all : Option (List SeqPart)) (scope : Scope) (spot : Spot) (d : Draft) → DraftGrows d (otherwise (last_readings all) scope spot d).0
  otherwise_grows None scope spot d = draft_same d
  otherwise_grows (Some all) scope spot d = body_grows all scope spot 0 d

  -- ---- statements

  if_grows : (place : Place) (all : List BranchPart) (last : Option (List SeqPart)) (scope : Scope) (spot : Spot) (i : ℕ) (d : Draft)
      → DraftGrows d (seq_step w (Seq-F.If place (branch_readings all) (last_readings last)) scope spot i d).0
  if_grows place all last scope spot i d =
      let first = branches (branch_readings all) scope spot i 0 d in
      let rest = otherwise (last_readings last) scope (way_to spot i (length (branch_readings all))) first.0 in
      whole_grows place d (rest.0, _)
      (draft_on d first.0 rest.0 (branches_grow all scope spot i 0 d) (otherwise_grows last scope (way_to spot i (length (branch_readings all))) first.0))

  case_grows : (place : Place) (x : Expr) (all : List AlternativePart) (scope : Scope) (spot : Spot) (i : ℕ) (d : Draft)
      → DraftGrows d (seq_step w (Seq-F.Case place x (case_readings all)) scope spot i d).0
  case_grows place x all scope spot i d =
      let e = typed w scope running x d.notes in
      whole_grows place d (case_statement w x (case_readings all) scope spot i d)
      (draft_on d (with_notes e.0 d) (alternatives (case_readings all) scope spot i 0 (kind_known e.1) nothing_seen (with_notes e.0 d)).0
      (draft_notes d e.0 (reading_adds_notes w.texts scope x running d.notes))
      (alternatives_grow all scope spot i 0 (kind_known e.1) nothing_seen (with_notes e.0 d)))

  loop_grows : (how : Iteration) (all : List SeqPart) (scope : Scope) (spot : Spot) (i : ℕ) (d : Draft) → DraftGrows d (loop_statement w how (readings all) scope spot i d).0
  loop_grows iteration.Endless all scope spot i d = body_grows all scope (looping spot i) 0 d
  loop_grows (iteration.While x) all scope spot i d =
      let c = must_be w scope running (Of t.Boolean) x d.notes in
      draft_on d (with_notes c.0 d) (body (readings all) scope (looping spot i) 0 (with_notes c.0 d)).0 (draft_notes d c.0 (grows_must w scope running (Of t.Boolean) x d.notes))
      (body_grows all scope (looping spot i) 0 (with_notes c.0 d))
  loop_grows (iteration.For x range) all scope spot i d =
      let left = must_be w scope running (Of t.Integer) range.left d.notes in
      let right = must_be w scope running (Of t.Integer) range.right left.0 in
      let p = length d.variables in
      let a = with_notes right.0 d in
      let b = with_parameter w.texts x a in
      draft_on d b (body (readings all) (with_name (inside scope) x.number (thing.Parameter p)) (within_loop spot i p) 0 b).0
      (draft_on d a b
      (draft_notes d right.0 (grows_on d.notes left.0 right.0 (grows_must w scope running (Of t.Integer) range.left d.notes) (grows_must w scope running (Of t.Integer) range.right left.0)))
      (draft_parameter w.texts x a))
      (body_grows all (with_name (inside scope) x.number (thing.Parameter p)) (within_loop spot i p) 0 b)

  signal_grows : (x : Name) (delay : Option DelayMechanism) (wave : List WaveformElement) (scope : Scope) (spot : Spot) (i : ℕ) (d : Draft)
      → DraftGrows d (signal_statement w x delay wave scope spot i d).0
  signal_grows x delay wave scope spot i d =
      let to = target scope x d.notes in
      simple_grows x.place d (driving to.1 d) (assignment w scope to.1 delay wave to.0) (draft_driving to.1 d)
      (grows_on d.notes to.0 (assignment w scope to.1 delay wave to.0).0 (grows_target w scope x d.notes) (grows_assignment w scope to.1 delay wave to.0))

  variable_grows : (x : Name) (value : Expr) (scope : Scope) (n : Notes) → Grows n (variable_assignment w scope x value n).0
  variable_grows x value scope n =
      let found = found_thing x (lookup scope x.number) n in
      grows_on n found.0 (variable_assignment w scope x value n).0 (grows_found x (lookup scope x.number) n) (reading_adds_notes w.texts scope value running found.0)

  wait_grows : (names : List Expr) (until time : Option Expr) (scope : Scope) (d : Draft) → Grows d.notes (wait_statement w scope names until time d).0
  wait_grows names until time scope d =
      let all = sensitivity w scope names d.notes in
      let x = condition w scope until all.0 in
      grows_on d.notes all.0 (wait_statement w scope names until time d).0 (grows_sensitivity w scope names d.notes)
      (grows_on all.0 x.0 (wait_statement w scope names until time d).0 (grows_may w scope running (Of t.Boolean) until all.0) (grows_may w scope running (Of t.Time) time x.0))

  break_grows : (elements : List BreakElement) (x : Option Expr) (scope : Scope) (n : Notes) → Grows n (break_statement w scope elements x n).0
  break_grows elements x scope n =
      let all = break_elements w scope elements n in
      grows_on n all.0 (break_statement w scope elements x n).0 (grows_breaks w scope elements n) (grows_may w scope running (Of t.Boolean) x all.0)

  -- ---- the induction

  abbrev seq_of : Seq-F SeqPart AlternativePart BranchPart → Seq
  seq_of y = roll-Seq (map-Seq SeqPart AlternativePart BranchPart Seq WrittenAlternative WrittenBranch (λ p. p.0) (λ p. p.0) (λ p. p.0) y)

  lift : (y : Seq-F Seq WrittenAlternative WrittenBranch) (f : Reads Statement) → statement_of w (roll-Seq y) ≡ f → ((scope : Scope) (spot : Spot) (i : ℕ) (d : Draft) → DraftGrows d (f scope spot i d).0)
      → SeqGrows (roll-Seq y)
  lift y f e h = subst (λ (g : Reads Statement). (scope : Scope) (spot : Spot) (i : ℕ) (d : Draft) → DraftGrows d (g scope spot i d).0) (sym e) h

  opened : (y : Seq-F Seq WrittenAlternative WrittenBranch)
      → statement_of w (roll-Seq y) ≡ seq_step w (map-Seq Seq WrittenAlternative WrittenBranch (Reads Statement) CaseReads BranchReads (statement_of w) (alternative_of w) (branch_of w) y)
  opened y = fold-roll-Seq (Reads Statement) CaseReads BranchReads (seq_step w) (alternative_step w) (branch_step w) y

  if_step : (place : Place) (all : List BranchPart) (last : Option (List SeqPart)) → SeqGrows (seq_of (Seq-F.If place all last))
  if_step place all None =
      lift (Seq-F.If place (map (λ (p : BranchPart). p.0) all) None) (seq_step w (Seq-F.If place (branch_readings all) None)) (opened (Seq-F.If place (map (λ (p : BranchPart). p.0) all) None))
      (if_grows place all None)
  if_step place all (Some last) =
      lift (Seq-F.If place (map (λ (p : BranchPart). p.0) all) (Some (seqs_of last))) (seq_step w (Seq-F.If place (branch_readings all) (last_readings (Some last))))
      (opened (Seq-F.If place (map (λ (p : BranchPart). p.0) all) (Some (seqs_of last))))
      (if_grows place all (Some last))

  seq_steps : (y : Seq-F SeqPart AlternativePart BranchPart) → SeqGrows (seq_of y)
  seq_steps (Seq-F.Signal x delay wave) =
      lift (Seq-F.Signal x delay wave) (seq_step w (Seq-F.Signal x delay wave)) (opened (Seq-F.Signal x delay wave)) (signal_grows x delay wave)
  seq_steps (Seq-F.Variable x value) =
      lift (Seq-F.Variable x value) (seq_step w (Seq-F.Variable x value)) (opened (Seq-F.Variable x value))
      (λ scope spot i d. simple_grows x.place d d (variable_assignment w scope x value d.notes) (draft_same d) (variable_grows x value scope d.notes))
  seq_steps (Seq-F.If place all last) = if_step place all last
  seq_steps (Seq-F.Case place x all) =
      lift (Seq-F.Case place x (map (λ (p : AlternativePart). p.0) all)) (seq_step w (Seq-F.Case place x (case_readings all))) (opened (Seq-F.Case place x (map (λ (p : AlternativePart). p.0) all)))
      (case_grows place x all)
  seq_steps (Seq-F.Loop place how all) =
      lift (Seq-F.Loop place how (seqs_of all)) (seq_step w (Seq-F.Loop place how (readings all))) (opened (Seq-F.Loop place how (seqs_of all)))
      (λ scope spot i d. whole_grows place d (loop_statement w how (readings all) scope spot i d) (loop_grows how all scope spot i d))
  seq_steps (Seq-F.Exit place x) =
      lift (Seq-F.Exit place x) (seq_step w (Seq-F.Exit place x)) (opened (Seq-F.Exit place x))
      (λ scope spot i d. simple_grows place d d _ (draft_same d) (grows_may w scope running (Of t.Boolean) x d.notes))
  seq_steps (Seq-F.Next place x) =
      lift (Seq-F.Next place x) (seq_step w (Seq-F.Next place x)) (opened (Seq-F.Next place x))
      (λ scope spot i d. simple_grows place d d _ (draft_same d) (grows_may w scope running (Of t.Boolean) x d.notes))
  seq_steps (Seq-F.Wait place names until time) =
      lift (Seq-F.Wait place names until time) (seq_step w (Seq-F.Wait place names until time)) (opened (Seq-F.Wait place names until time))
      (λ scope spot i d. simple_grows place d (with_wait spot i d) (wait_statement w scope names until time d) (draft_wait spot i d) (wait_grows names until time scope d))
  seq_steps (Seq-F.Assert a) =
      lift (Seq-F.Assert a) (seq_step w (Seq-F.Assert a)) (opened (Seq-F.Assert a))
      (λ scope spot i d. simple_grows a.place d d _ (draft_same d) (grows_must w scope running (Of t.Boolean) a.condition d.notes))
  seq_steps (Seq-F.Report place r) =
      lift (Seq-F.Report place r) (seq_step w (Seq-F.Report place r)) (opened (Seq-F.Report place r)) (λ scope spot i d. simple_grows place d d _ (draft_same d) (grows_same d.notes))
  seq_steps (Seq-F.Break place elements x) =
      lift (Seq-F.Break place elements x) (seq_step w (Seq-F.Break place elements x)) (opened (Seq-F.Break place elements x))
      (λ scope spot i d. simple_grows place d d (break_statement w scope elements x d.notes) (draft_same d) (break_grows elements x scope d.notes))
  seq_steps (Seq-F.Null place) = lift (Seq-F.Null place) (seq_step w (Seq-F.Null place)) (opened (Seq-F.Null place)) (λ scope spot i d. draft_same d)

  abbrev alternative_at : Alternative-F SeqPart AlternativePart BranchPart → WrittenAlternative
  alternative_at y = roll-Alternative (map-Alternative SeqPart AlternativePart BranchPart Seq WrittenAlternative WrittenBranch (λ p. p.0) (λ p. p.0) (λ p. p.0) y)

  alternative_steps : (y : Alternative-F SeqPart AlternativePart BranchPart) → AlternativeGrows (alternative_at y)
  alternative_steps y =
      subst (λ (g : CaseReads). (scope : Scope) (spot : Spot) (k : Option Kind) (seen : Seen) (d : Draft) → DraftGrows d (g scope spot k seen d).0)
      (sym (fold-roll-Alternative (Reads Statement) CaseReads BranchReads (seq_step w) (alternative_step w) (branch_step w) (record { choices = y.choices; body = seqs_of y.body })))
      (alternative_grows y.choices y.body)

  abbrev branch_at : Branch-F SeqPart AlternativePart BranchPart → WrittenBranch
  branch_at y = roll-Branch (map-Branch SeqPart AlternativePart BranchPart Seq WrittenAlternative WrittenBranch (λ p. p.0) (λ p. p.0) (λ p. p.0) y)

  branch_steps : (y : Branch-F SeqPart AlternativePart BranchPart) → BranchGrows (branch_at y)
  branch_steps y =
      subst (λ (g : BranchReads). (scope : Scope) (spot : Spot) (d : Draft) → DraftGrows d (g scope spot d).0)
      (sym (fold-roll-Branch (Reads Statement) CaseReads BranchReads (seq_step w) (alternative_step w) (branch_step w) (record { condition = y.condition; body = seqs_of y.body })))
      (branch_grows y.condition y.body)

  abbrev seq_case : (x : Seq-F Seq WrittenAlternative WrittenBranch) (y : Seq-F SeqPart AlternativePart BranchPart)
      → map-Seq SeqPart AlternativePart BranchPart Seq WrittenAlternative WrittenBranch (λ p. p.0) (λ p. p.0) (λ p. p.0) y ≡ x → SeqGrows (roll-Seq x)
  seq_case x y is = subst (λ (z : Seq-F Seq WrittenAlternative WrittenBranch). SeqGrows (roll-Seq z)) is (seq_steps y)

  abbrev alternative_case : (x : Alternative-F Seq WrittenAlternative WrittenBranch) (y : Alternative-F SeqPart AlternativePart BranchPart)
      → map-Alternative SeqPart AlternativePart BranchPart Seq WrittenAlternative WrittenBranch (λ p. p.0) (λ p. p.0) (λ p. p.0) y ≡ x → AlternativeGrows (roll-Alternative x)
  alternative_case x y is = subst (λ (z : Alternative-F Seq WrittenAlternative WrittenBranch). AlternativeGrows (roll-Alternative z)) is (alternative_steps y)

  abbrev branch_case : (x : Branch-F Seq WrittenAlternative WrittenBranch) (y : Branch-F SeqPart AlternativePart BranchPart)
      → map-Branch SeqPart AlternativePart BranchPart Seq WrittenAlternative WrittenBranch (λ p. p.0) (λ p. p.0) (λ p. p.0) y ≡ x → BranchGrows (roll-Branch x)
  branch_case x y is = subst (λ (z : Branch-F Seq WrittenAlternative WrittenBranch). BranchGrows (roll-Branch z)) is (branch_steps y)

  pub statement_grows : (s : Seq) → SeqGrows s
  statement_grows = ind-Seq SeqGrows AlternativeGrows BranchGrows seq_case alternative_case branch_case

  pub alternative_of_grows : (a : WrittenAlternative) → AlternativeGrows a
  alternative_of_grows = ind-Alternative SeqGrows AlternativeGrows BranchGrows seq_case alternative_case branch_case

  pub branch_of_grows : (b : WrittenBranch) → BranchGrows b
  branch_of_grows = ind-Branch SeqGrows AlternativeGrows BranchGrows seq_case alternative_case branch_case

  -- so do lists of statements
  pub all_grow : (all : List Seq) (scope : Scope) (spot : Spot) (i : ℕ) (d : Draft) → DraftGrows d (body (map (statement_of w) all) scope spot i d).0
  all_grow [] scope spot i d = draft_same d
  all_grow (s ∷ more) scope spot i d =
      let first = statement_of w s scope spot i d in
      draft_on d first.0 (body (map (statement_of w) more) scope spot (i + 1) first.0).0 (statement_grows s scope spot i d) (all_grow more scope spot (i + 1) first.0)

  pub branches_of_grow : (all : List WrittenBranch) (scope : Scope) (spot : Spot) (i k : ℕ) (d : Draft) → DraftGrows d (branches (map (branch_of w) all) scope spot i k d).0
  branches_of_grow [] scope spot i k d = draft_same d
  branches_of_grow (b ∷ more) scope spot i k d =
      let first = branch_of w b scope (way_to spot i k) d in
      draft_on d first.0 (branches (map (branch_of w) more) scope spot i (k + 1) first.0).0 (branch_of_grows b scope (way_to spot i k) d) (branches_of_grow more scope spot i (k + 1) first.0)

  pub alternatives_of_grow : (all : List WrittenAlternative) (scope : Scope) (spot : Spot) (i b : ℕ) (k : Option Kind) (seen : Seen) (d : Draft)
      → DraftGrows d (alternatives (map (alternative_of w) all) scope spot i b k seen d).0
  alternatives_of_grow [] scope spot i b k seen d = draft_same d
  alternatives_of_grow (a ∷ more) scope spot i b k seen d =
      let first = alternative_of w a scope (way_to spot i b) k seen d in
      draft_on d first.0 (alternatives (map (alternative_of w) more) scope spot i (b + 1) k first.1.0 first.0).0 (alternative_of_grows a scope (way_to spot i b) k seen d)
      (alternatives_of_grow more scope spot i (b + 1) k first.1.0 first.0)

pub statements_add : StatementsAdd
statements_add w s scope spot i d = statement_grows w s scope spot i d
