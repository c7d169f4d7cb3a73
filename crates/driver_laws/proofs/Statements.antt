-- The signals that a process drives are read once, statement by statement.
use Rattle.std.proofs.Common.{◌≡◌, ◌<◌, ℕ, zero, suc, arith, ◌+◌, Bool, true, false, if◌then◌else◌, List, [], ◌∷◌, ◌++◌, length, map, Option, Some, None, refl, sym, ap, ◌∙◌, subst}
use Rattle.std.specs.Prelude.{nat_eq, ◌≢◌, ◌||◌, get_or}
use Rattle.std.specs.List.{AllPairs, list_any}
use Rattle.std.proofs.lemmas.Bool.Decides.{nat_tests}
use Rattle.std.proofs.lemmas.List.Quantifiers.{all_pairs_push}
use Rattle.ams_token.specs.declared.token.Place.{Place}
use Rattle.ams_tree.specs.declared.expression.Name.{Name}
use Rattle.ams_tree.specs.declared.expression.Expr.{Expr}
use Rattle.ams_tree.specs.declared.sequential.Alternative.{Alternative as WrittenAlternative}
use Rattle.ams_tree.specs.declared.sequential.Branch.{Branch as WrittenBranch}
use Rattle.ams_tree.specs.declared.sequential.BreakElement.{BreakElement}
use Rattle.ams_tree.specs.declared.sequential.Choice.{Choice}
use Rattle.ams_tree.specs.declared.sequential.DelayMechanism.{DelayMechanism}
use Rattle.ams_tree.specs.declared.sequential.Iteration.{Iteration}
use Rattle.ams_tree.specs.declared.sequential.Iteration.TheVariants as iteration
use Rattle.ams_tree.specs.declared.sequential.Seq.{Seq}
use Rattle.ams_tree.specs.declared.sequential.Seq.TheOpen.{Branch-F, Alternative-F, Seq-F}
use Rattle.ams_tree.specs.declared.sequential.Seq.TheViews.{roll-Seq, roll-Alternative, roll-Branch}
use Rattle.ams_tree.specs.declared.sequential.Seq.TheFolds.{map-Seq, map-Alternative, map-Branch, fold-roll-Seq, fold-roll-Alternative, fold-roll-Branch, ind-Seq, ind-Alternative, ind-Branch}
use Rattle.ams_tree.specs.declared.sequential.WaveformElement.{WaveformElement}
use Rattle.ams_value.specs.declared.value_type.ValueType.TheVariants as t
use Rattle.flat_expr.specs.declared.statement.Statement.{Statement}
use Rattle.name_scope.specs.declared.thing.Kind.{Kind}
use Rattle.name_scope.specs.declared.thing.Kind.TheVariants.{Of}
use Rattle.name_scope.specs.declared.thing.Thing.TheVariants as thing
use Rattle.name_scope.specs.declared.scope.Scope.{Scope}
use Rattle.name_scope.specs.Scopes.{lookup, inside, with_name}
use Rattle.elab_meaning.specs.declared.fault.Notes.{Notes}
use Rattle.elab_meaning.specs.declared.part.Part.{Part}
use Rattle.elab_meaning.specs.declared.part.Part.TheVariants.{Kept, Wrong, Hidden}
use Rattle.elab_meaning.specs.Notes.{text_of}
use Rattle.elab_meaning.specs.Expressions.{static_in}
use Rattle.elab_meaning.specs.Parts.{closed, found_thing}
use Rattle.unit_meaning.specs.declared.draft.Draft.{Draft}
use Rattle.unit_meaning.specs.declared.draft.Seen.{Seen}
use Rattle.unit_meaning.specs.declared.draft.Spot.{Spot}
use Rattle.unit_meaning.specs.Settings.{Setting, running, typed, must_be, condition}
use Rattle.unit_meaning.specs.Waveforms.{target, assignment}
use Rattle.unit_meaning.specs.Bare.{sensitivity, break_elements}
use Rattle.unit_meaning.specs.Cases.{choices, nothing_seen}
use Rattle.unit_meaning.specs.Sequential.{with_notes, with_driver, with_parameter, with_wait, way_to, looping, within_loop, variable_assignment, break_statement, wait_statement, Reads, CaseReads, BranchReads, body, branch_step, branches, otherwise, alternative_step, alternatives, kind_known, case_statement, loop_statement, simple, whole, driving, signal_statement, seq_step, statement_of}
use Rattle.name_scope.specs.declared.thing.Subtype.{Subtype}
use Rattle.draft_laws.specs.Drafts.{alternative_of, branch_of}
use Rattle.driver_laws.specs.Driven.{Once}

-- ---- numbers

not_among : (i : ℕ) (xs : List ℕ) → list_any (nat_eq i) xs ≡ false → (k : ℕ) (d : ℕ) → k < length xs → i ≡ get_or xs k d → ⊥
not_among i [] h k d less is = absurd (omega arith)
not_among i (x ∷ xs) h zero d less is = none_true (nat_eq i x) (list_any (nat_eq i) xs) (same is) h
  where
    same : i ≡ x → nat_eq i x ≡ true
    same e = grind (arith, nat_tests)

    none_true : (a b : Bool) → a ≡ true → (a || b) ≡ false → ⊥
    none_true true b e g = grind arith
    none_true false b e g = grind arith
not_among i (x ∷ xs) h (suc k) d less is = not_among i xs (rest_false (nat_eq i x) (list_any (nat_eq i) xs) h) k d (omega arith) is
  where
    rest_false : (a b : Bool) → (a || b) ≡ false → b ≡ false
    rest_false true b g = absurd (grind arith)
    rest_false false b g = g

one_more : (i : ℕ) (xs : List ℕ) → list_any (nat_eq i) xs ≡ false → Once xs → Once (xs ++ i ∷ [])
one_more i xs new h = all_pairs_push (λ (a b : ℕ). a ≢ b) xs i h (λ k d less is. not_among i xs new k d less (sym is))

-- ---- drafts

-- a draft behind another, which drives each signal once where the first does
pub record StaysOnce (old new : Draft) : Type 0 where
  pub drivers : Once old.drivers → Once new.drivers

pub once_same : (d : Draft) → StaysOnce d d
once_same d = record { drivers = λ h. h }

pub once_on : (a b c : Draft) → StaysOnce a b → StaysOnce b c → StaysOnce a c
once_on a b c p q = record { drivers = λ h. q.drivers (p.drivers h) }

pub once_notes : (d : Draft) (n : Notes) → StaysOnce d (with_notes n d)
once_notes d n = record { drivers = λ h. h }

once_parameter : (texts : List (List ℕ)) (x : Name) (d : Draft) → StaysOnce d (with_parameter texts x d)
once_parameter texts x d = record { drivers = λ h. h }

once_wait : (spot : Spot) (i : ℕ) (d : Draft) → StaysOnce d (with_wait spot i d)
once_wait spot i d = record { drivers = λ h. h }

pub once_driver : (i : ℕ) (d : Draft) → StaysOnce d (with_driver i d)
once_driver i d = go (list_any (nat_eq i) d.drivers) refl
  where
    go : (b : Bool) → list_any (nat_eq i) d.drivers ≡ b → StaysOnce d (if b then d else record d { drivers = d.drivers ++ i ∷ [] })
    go true is = once_same d
    go false is = record { drivers = λ h. one_more i d.drivers is h }

once_driving : (to : Part (ℕ × Subtype)) (d : Draft) → StaysOnce d (driving to d)
once_driving (Kept to) d = once_driver to.0 d
once_driving Wrong d = once_same d
once_driving Hidden d = once_same d

simple_once : (place : Place) (a d : Draft) (found : Notes × Part Statement) → StaysOnce a d → StaysOnce a (simple place d found).0
simple_once place a d found h = record { drivers = h.drivers }

whole_once : (place : Place) (d : Draft) (found : Draft × Part Statement) → StaysOnce d found.0 → StaysOnce d (whole place found).0
whole_once place d found h = record { drivers = h.drivers }

module _ (w : Setting) where
  abbrev SeqOnce : Seq → Type 0
  SeqOnce s = (scope : Scope) (spot : Spot) (i : ℕ) (d : Draft) → StaysOnce d (statement_of w s scope spot i d).0

  abbrev AlternativeOnce : WrittenAlternative → Type 0
  AlternativeOnce a = (scope : Scope) (spot : Spot) (k : Option Kind) (seen : Seen) (d : Draft) → StaysOnce d (alternative_of w a scope spot k seen d).0

  abbrev BranchOnce : WrittenBranch → Type 0
  BranchOnce b = (scope : Scope) (spot : Spot) (d : Draft) → StaysOnce d (branch_of w b scope spot d).0

  abbrev SeqPart : Type 0
  SeqPart = (s : Seq) × SeqOnce s

  abbrev AlternativePart : Type 0
  AlternativePart = (a : WrittenAlternative) × AlternativeOnce a

  abbrev BranchPart : Type 0
  BranchPart = (b : WrittenBranch) × BranchOnce b

  abbrev seqs_of : List SeqPart → List Seq
  seqs_of all = map (λ (p : SeqPart). p.0) all

  abbrev readings : List SeqPart → List (Reads Statement)
  readings all = map (statement_of w) (seqs_of all)

  abbrev branch_readings : List BranchPart → List BranchReads
  branch_readings all = map (branch_of w) (map (λ (p : BranchPart). p.0) all)

  abbrev case_readings : List AlternativePart → List CaseReads
  case_readings all = map (alternative_of w) (map (λ (p : AlternativePart). p.0) all)

  -- ---- lists

  body_once : (all : List SeqPart) (scope : Scope) (spot : Spot) (i : ℕ) (d : Draft) → StaysOnce d (body (readings all) scope spot i d).0
  body_once [] scope spot i d = once_same d
  body_once (p ∷ more) scope spot i d =
      let first = statement_of w p.0 scope spot i d in
      once_on d first.0 (body (readings more) scope spot (i + 1) first.0).0 (p.1 scope spot i d) (body_once more scope spot (i + 1) first.0)

  branches_once : (all : List BranchPart) (scope : Scope) (spot : Spot) (i k : ℕ) (d : Draft) → StaysOnce d (branches (branch_readings all) scope spot i k d).0
  branches_once [] scope spot i k d = once_same d
  branches_once (p ∷ more) scope spot i k d =
      let first = branch_of w p.0 scope (way_to spot i k) d in
      once_on d first.0 (branches (branch_readings more) scope spot i (k + 1) first.0).0 (p.1 scope (way_to spot i k) d) (branches_once more scope spot i (k + 1) first.0)

  alternatives_once : (all : List AlternativePart) (scope : Scope) (spot : Spot) (i b : ℕ) (k : Option Kind) (seen : Seen) (d : Draft)
      → StaysOnce d (alternatives (case_readings all) scope spot i b k seen d).0
  alternatives_once [] scope spot i b k seen d = once_same d
  alternatives_once (p ∷ more) scope spot i b k seen d =
      let first = alternative_of w p.0 scope (way_to spot i b) k seen d in
      once_on d first.0 (alternatives (case_readings more) scope spot i (b + 1) k first.1.0 first.0).0 (p.1 scope (way_to spot i b) k seen d)
      (alternatives_once more scope spot i (b + 1) k first.1.0 first.0)

  -- ---- parts of statements

  branch_once : (x : Expr) (all : List SeqPart) (scope : Scope) (spot : Spot) (d : Draft)
      → StaysOnce d (branch_step w (record { condition = x; body = readings all }) scope spot d).0
  branch_once x all scope spot d =
      let c = must_be w scope running (Of t.Boolean) x d.notes in
      once_on d (with_notes c.0 d) (body (readings all) scope spot 0 (with_notes c.0 d)).0 (once_notes d c.0)
      (body_once all scope spot 0 (with_notes c.0 d))

  alternative_once : (cs : List Choice) (all : List SeqPart) (scope : Scope) (spot : Spot) (k : Option Kind) (seen : Seen) (d : Draft)
      → StaysOnce d (alternative_step w (record { choices = cs; body = readings all }) scope spot k seen d).0
  alternative_once cs all scope spot k seen d =
      let c = choices w scope (static_in running) k seen cs d.notes in
      once_on d (with_notes c.0 d) (body (readings all) scope spot 0 (with_notes c.0 d)).0 (once_notes d c.0)
      (body_once all scope spot 0 (with_notes c.0 d))

  abbrev last_readings : Option (List SeqPart) → Option (List (Reads Statement))
  last_readings None = None
  last_readings (Some all) = Some (readings all)

  otherwise_once : (all : Option (List SeqPart)) (scope : Scope) (spot : Spot) (d : Draft) → StaysOnce d (otherwise (last_readings all) scope spot d).0
  otherwise_once None scope spot d = once_same d
  otherwise_once (Some all) scope spot d = body_once all scope spot 0 d

  -- ---- statements

  if_once : (place : Place) (all : List BranchPart) (last : Option (List SeqPart)) (scope : Scope) (spot : Spot) (i : ℕ) (d : Draft)
      → StaysOnce d (seq_step w (Seq-F.If place (branch_readings all) (last_readings last)) scope spot i d).0
  if_once place all last scope spot i d =
      let first = branches (branch_readings all) scope spot i 0 d in
      let rest = otherwise (last_readings last) scope (way_to spot i (length (branch_readings all))) first.0 in
      whole_once place d (rest.0, _)
      (once_on d first.0 rest.0 (branches_once all scope spot i 0 d) (otherwise_once last scope (way_to spot i (length (branch_readings all))) first.0))

  case_once : (place : Place) (x : Expr) (all : List AlternativePart) (scope : Scope) (spot : Spot) (i : ℕ) (d : Draft)
      → StaysOnce d (seq_step w (Seq-F.Case place x (case_readings all)) scope spot i d).0
  case_once place x all scope spot i d =
      let e = typed w scope running x d.notes in
      whole_once place d (case_statement w x (case_readings all) scope spot i d)
      (once_on d (with_notes e.0 d) (alternatives (case_readings all) scope spot i 0 (kind_known e.1) nothing_seen (with_notes e.0 d)).0
      (once_notes d e.0)
      (alternatives_once all scope spot i 0 (kind_known e.1) nothing_seen (with_notes e.0 d)))

  loop_once : (how : Iteration) (all : List SeqPart) (scope : Scope) (spot : Spot) (i : ℕ) (d : Draft) → StaysOnce d (loop_statement w how (readings all) scope spot i d).0
  loop_once iteration.Endless all scope spot i d = body_once all scope (looping spot i) 0 d
  loop_once (iteration.While x) all scope spot i d =
      let c = must_be w scope running (Of t.Boolean) x d.notes in
      once_on d (with_notes c.0 d) (body (readings all) scope (looping spot i) 0 (with_notes c.0 d)).0 (once_notes d c.0)
      (body_once all scope (looping spot i) 0 (with_notes c.0 d))
  loop_once (iteration.For x range) all scope spot i d =
      let left = must_be w scope running (Of t.Integer) range.left d.notes in
      let right = must_be w scope running (Of t.Integer) range.right left.0 in
      let p = length d.variables in
      let a = with_notes right.0 d in
      let b = with_parameter w.texts x a in
      once_on d b (body (readings all) (with_name (inside scope) x.number (thing.Parameter p)) (within_loop spot i p) 0 b).0
      (once_on d a b
      (once_notes d right.0)
      (once_parameter w.texts x a))
      (body_once all (with_name (inside scope) x.number (thing.Parameter p)) (within_loop spot i p) 0 b)

  signal_once : (x : Name) (delay : Option DelayMechanism) (wave : List WaveformElement) (scope : Scope) (spot : Spot) (i : ℕ) (d : Draft)
      → StaysOnce d (signal_statement w x delay wave scope spot i d).0
  signal_once x delay wave scope spot i d =
      let to = target scope x d.notes in
      simple_once x.place d (driving to.1 d) (assignment w scope to.1 delay wave to.0) (once_driving to.1 d)

  -- ---- the induction

  abbrev seq_of : Seq-F SeqPart AlternativePart BranchPart → Seq
  seq_of y = roll-Seq (map-Seq SeqPart AlternativePart BranchPart Seq WrittenAlternative WrittenBranch (λ p. p.0) (λ p. p.0) (λ p. p.0) y)

  lift : (y : Seq-F Seq WrittenAlternative WrittenBranch) (f : Reads Statement) → statement_of w (roll-Seq y) ≡ f → ((scope : Scope) (spot : Spot) (i : ℕ) (d : Draft) → StaysOnce d (f scope spot i d).0)
      → SeqOnce (roll-Seq y)
  lift y f e h = subst (λ (g : Reads Statement). (scope : Scope) (spot : Spot) (i : ℕ) (d : Draft) → StaysOnce d (g scope spot i d).0) (sym e) h

  opened : (y : Seq-F Seq WrittenAlternative WrittenBranch)
      → statement_of w (roll-Seq y) ≡ seq_step w (map-Seq Seq WrittenAlternative WrittenBranch (Reads Statement) CaseReads BranchReads (statement_of w) (alternative_of w) (branch_of w) y)
  opened y = fold-roll-Seq (Reads Statement) CaseReads BranchReads (seq_step w) (alternative_step w) (branch_step w) y

  if_step : (place : Place) (all : List BranchPart) (last : Option (List SeqPart)) → SeqOnce (seq_of (Seq-F.If place all last))
  if_step place all None =
      lift (Seq-F.If place (map (λ (p : BranchPart). p.0) all) None) (seq_step w (Seq-F.If place (branch_readings all) None)) (opened (Seq-F.If place (map (λ (p : BranchPart). p.0) all) None))
      (if_once place all None)
  if_step place all (Some last) =
      lift (Seq-F.If place (map (λ (p : BranchPart). p.0) all) (Some (seqs_of last))) (seq_step w (Seq-F.If place (branch_readings all) (last_readings (Some last))))
      (opened (Seq-F.If place (map (λ (p : BranchPart). p.0) all) (Some (seqs_of last))))
      (if_once place all (Some last))

  seq_steps : (y : Seq-F SeqPart AlternativePart BranchPart) → SeqOnce (seq_of y)
  seq_steps (Seq-F.Signal x delay wave) =
      lift (Seq-F.Signal x delay wave) (seq_step w (Seq-F.Signal x delay wave)) (opened (Seq-F.Signal x delay wave)) (signal_once x delay wave)
  seq_steps (Seq-F.Variable x value) =
      lift (Seq-F.Variable x value) (seq_step w (Seq-F.Variable x value)) (opened (Seq-F.Variable x value))
      (λ scope spot i d. simple_once x.place d d (variable_assignment w scope x value d.notes) (once_same d))
  seq_steps (Seq-F.If place all last) = if_step place all last
  seq_steps (Seq-F.Case place x all) =
      lift (Seq-F.Case place x (map (λ (p : AlternativePart). p.0) all)) (seq_step w (Seq-F.Case place x (case_readings all))) (opened (Seq-F.Case place x (map (λ (p : AlternativePart). p.0) all)))
      (case_once place x all)
  seq_steps (Seq-F.Loop place how all) =
      lift (Seq-F.Loop place how (seqs_of all)) (seq_step w (Seq-F.Loop place how (readings all))) (opened (Seq-F.Loop place how (seqs_of all)))
      (λ scope spot i d. whole_once place d (loop_statement w how (readings all) scope spot i d) (loop_once how all scope spot i d))
  seq_steps (Seq-F.Exit place x) =
      lift (Seq-F.Exit place x) (seq_step w (Seq-F.Exit place x)) (opened (Seq-F.Exit place x))
      (λ scope spot i d. record { drivers = λ h. h })
  seq_steps (Seq-F.Next place x) =
      lift (Seq-F.Next place x) (seq_step w (Seq-F.Next place x)) (opened (Seq-F.Next place x))
      (λ scope spot i d. record { drivers = λ h. h })
  seq_steps (Seq-F.Wait place names until time) =
      lift (Seq-F.Wait place names until time) (seq_step w (Seq-F.Wait place names until time)) (opened (Seq-F.Wait place names until time))
      (λ scope spot i d. simple_once place d (with_wait spot i d) (wait_statement w scope names until time d) (once_wait spot i d))
  seq_steps (Seq-F.Assert a) =
      lift (Seq-F.Assert a) (seq_step w (Seq-F.Assert a)) (opened (Seq-F.Assert a))
      (λ scope spot i d. record { drivers = λ h. h })
  seq_steps (Seq-F.Report place r) =
      lift (Seq-F.Report place r) (seq_step w (Seq-F.Report place r)) (opened (Seq-F.Report place r)) (λ scope spot i d. record { drivers = λ h. h })
  seq_steps (Seq-F.Break place elements x) =
      lift (Seq-F.Break place elements x) (seq_step w (Seq-F.Break place elements x)) (opened (Seq-F.Break place elements x))
      (λ scope spot i d. simple_once place d d (break_statement w scope elements x d.notes) (once_same d))
  seq_steps (Seq-F.Null place) = lift (Seq-F.Null place) (seq_step w (Seq-F.Null place)) (opened (Seq-F.Null place)) (λ scope spot i d. once_same d)

  abbrev alternative_at : Alternative-F SeqPart AlternativePart BranchPart → WrittenAlternative
  alternative_at y = roll-Alternative (map-Alternative SeqPart AlternativePart BranchPart Seq WrittenAlternative WrittenBranch (λ p. p.0) (λ p. p.0) (λ p. p.0) y)

  alternative_steps : (y : Alternative-F SeqPart AlternativePart BranchPart) → AlternativeOnce (alternative_at y)
  alternative_steps y =
      subst (λ (g : CaseReads). (scope : Scope) (spot : Spot) (k : Option Kind) (seen : Seen) (d : Draft) → StaysOnce d (g scope spot k seen d).0)
      (sym (fold-roll-Alternative (Reads Statement) CaseReads BranchReads (seq_step w) (alternative_step w) (branch_step w) (record { choices = y.choices; body = seqs_of y.body })))
      (alternative_once y.choices y.body)

  abbrev branch_at : Branch-F SeqPart AlternativePart BranchPart → WrittenBranch
  branch_at y = roll-Branch (map-Branch SeqPart AlternativePart BranchPart Seq WrittenAlternative WrittenBranch (λ p. p.0) (λ p. p.0) (λ p. p.0) y)

  branch_steps : (y : Branch-F SeqPart AlternativePart BranchPart) → BranchOnce (branch_at y)
  branch_steps y =
      subst (λ (g : BranchReads). (scope : Scope) (spot : Spot) (d : Draft) → StaysOnce d (g scope spot d).0)
      (sym (fold-roll-Branch (Reads Statement) CaseReads BranchReads (seq_step w) (alternative_step w) (branch_step w) (record { condition = y.condition; body = seqs_of y.body })))
      (branch_once y.condition y.body)

  abbrev seq_case : (x : Seq-F Seq WrittenAlternative WrittenBranch) (y : Seq-F SeqPart AlternativePart BranchPart)
      → map-Seq SeqPart AlternativePart BranchPart Seq WrittenAlternative WrittenBranch (λ p. p.0) (λ p. p.0) (λ p. p.0) y ≡ x → SeqOnce (roll-Seq x)
  seq_case x y is = subst (λ (z : Seq-F Seq WrittenAlternative WrittenBranch). SeqOnce (roll-Seq z)) is (seq_steps y)

  abbrev alternative_case : (x : Alternative-F Seq WrittenAlternative WrittenBranch) (y : Alternative-F SeqPart AlternativePart BranchPart)
      → map-Alternative SeqPart AlternativePart BranchPart Seq WrittenAlternative WrittenBranch (λ p. p.0) (λ p. p.0) (λ p. p.0) y ≡ x → AlternativeOnce (roll-Alternative x)
  alternative_case x y is = subst (λ (z : Alternative-F Seq WrittenAlternative WrittenBranch). AlternativeOnce (roll-Alternative z)) is (alternative_steps y)

  abbrev branch_case : (x : Branch-F Seq WrittenAlternative WrittenBranch) (y : Branch-F SeqPart AlternativePart BranchPart)
      → map-Branch SeqPart AlternativePart BranchPart Seq WrittenAlternative WrittenBranch (λ p. p.0) (λ p. p.0) (λ p. p.0) y ≡ x → BranchOnce (roll-Branch x)
  branch_case x y is = subst (λ (z : Branch-F Seq WrittenAlternative WrittenBranch). BranchOnce (roll-Branch z)) is (branch_steps y)

  pub statement_once : (s : Seq) → SeqOnce s
  statement_once = ind-Seq SeqOnce AlternativeOnce BranchOnce seq_case alternative_case branch_case

  pub alternative_of_once : (a : WrittenAlternative) → AlternativeOnce a
  alternative_of_once = ind-Alternative SeqOnce AlternativeOnce BranchOnce seq_case alternative_case branch_case

  pub branch_of_once : (b : WrittenBranch) → BranchOnce b
  branch_of_once = ind-Branch SeqOnce AlternativeOnce BranchOnce seq_case alternative_case branch_case

  -- so do lists of statements
  pub all_once : (all : List Seq) (scope : Scope) (spot : Spot) (i : ℕ) (d : Draft) → StaysOnce d (body (map (statement_of w) all) scope spot i d).0
  all_once [] scope spot i d = once_same d
  all_once (s ∷ more) scope spot i d =
      let first = statement_of w s scope spot i d in
      once_on d first.0 (body (map (statement_of w) more) scope spot (i + 1) first.0).0 (statement_once s scope spot i d) (all_once more scope spot (i + 1) first.0)
