-- Sequential statements that tokens spell.
use Rattle.std.proofs.Common.{◌≡◌, ◌∙◌, ℕ, zero, suc, ◌<◌, ⊎_elim, Bool, true, false, List, [], ◌∷◌, length, map, Option, Some, None, refl, sym, ap, subst, arith}
use Rattle.std.specs.Prelude.{IsTrue}
use Rattle.std.specs.List.{All}
use Rattle.std.proofs.lemmas.List.Elements.{All-nil, All-cons}
use Rattle.ams_token.specs.declared.mark.Mark.TheVariants as m
use Rattle.ams_token.specs.declared.token.Place.{Place}
use Rattle.ams_token.specs.declared.word.Word.TheVariants as w
use Rattle.ams_tree.specs.declared.expression.Expr.{Expr}
use Rattle.ams_tree.specs.declared.expression.Name.{Name}
use Rattle.ams_tree.specs.declared.sequential.Alternative.{Alternative, roll-Alternative}
use Rattle.ams_tree.specs.declared.sequential.Branch.{Branch, roll-Branch}
use Rattle.ams_tree.specs.declared.sequential.Choice.{Choice}
use Rattle.ams_tree.specs.declared.sequential.DelayMechanism.{DelayMechanism}
use Rattle.ams_tree.specs.declared.sequential.Iteration.{Iteration}
use Rattle.ams_tree.specs.declared.sequential.Iteration.TheVariants as iteration
use Rattle.ams_tree.specs.declared.sequential.Seq.{Seq}
use Rattle.ams_tree.specs.declared.sequential.Seq.TheOpen.{Seq-F}
use Rattle.ams_tree.specs.declared.sequential.Seq.TheFolds.{fold-Branch, fold-Alternative, fold-roll-Branch, fold-roll-Alternative, fold-roll-Seq}
use Rattle.ams_tree.specs.declared.sequential.Seq.TheVariants as seq
use Rattle.ams_tree.specs.declared.sequential.Seq.TheVariants.{rolls-Signal, rolls-Variable, rolls-If, rolls-Case, rolls-Loop, rolls-Exit, rolls-Next, rolls-Wait, rolls-Assert, rolls-Report, rolls-Break, rolls-Null}
use Rattle.ams_tree.specs.declared.sequential.WaveformElement.{WaveformElement}
use Rattle.ams_tree.specs.Rule.{Rule, one, ◌>>◌}
use Rattle.ams_tree.specs.Terminals.{mark, word}
use Rattle.ams_tree.specs.Expressions.{nowhere}
use Rattle.ams_tree.specs.Statements.{waveform, waveform_element, one_choice, choices, assignment, exit_statement, next_statement, wait_statement, report_statement, break_statement, null_statement, body, branch, rest_of_if, if_statement, alternative, alternatives, case_statement, rest_of_loop, loop_statement, simple_statement, compound_statement, statement}
use Rattle.written_laws.specs.Written.{has_some, all_true, written_step, alternative_step, branch_step, is_written, AreWritten}
use Rattle.written_laws.proofs.Lists.{Makes, repeated_each, repeated_some, and_true, some_true, all_are_true, map_some}

-- ---- what the test says of each statement

abbrev alternative_written : Alternative → Bool
alternative_written = fold-Alternative Bool Bool Bool written_step alternative_step branch_step

abbrev branch_written : Branch → Bool
branch_written = fold-Branch Bool Bool Bool written_step alternative_step branch_step

of_signal : (x : Name) (delay : Option DelayMechanism) (wave : List WaveformElement) → is_written (seq.Signal x delay wave) ≡ has_some wave
of_signal x delay wave = ap is_written (sym (rolls-Signal x delay wave)) ∙ fold-roll-Seq Bool Bool Bool written_step alternative_step branch_step (Seq-F.Signal x delay wave)

of_case : (place : Place) (x : Expr) (all : List Alternative) → is_written (seq.Case place x all) ≡ written_step (Seq-F.Case place x (map alternative_written all))
of_case place x all = ap is_written (sym (rolls-Case place x all)) ∙ fold-roll-Seq Bool Bool Bool written_step alternative_step branch_step (Seq-F.Case place x all)

of_loop : (place : Place) (how : Iteration) (all : List Seq) → is_written (seq.Loop place how all) ≡ all_true (map is_written all)
of_loop place how all = ap is_written (sym (rolls-Loop place how all)) ∙ fold-roll-Seq Bool Bool Bool written_step alternative_step branch_step (Seq-F.Loop place how all)

of_if : (place : Place) (all : List Branch) → is_written (seq.If place all None) ≡ written_step (Seq-F.If place (map branch_written all) None)
of_if place all = ap is_written (sym (rolls-If place all None)) ∙ fold-roll-Seq Bool Bool Bool written_step alternative_step branch_step (Seq-F.If place all None)

of_if_else : (place : Place) (all : List Branch) (other : List Seq) → is_written (seq.If place all (Some other)) ≡ written_step (Seq-F.If place (map branch_written all) (Some (map is_written other)))
of_if_else place all other = ap is_written (sym (rolls-If place all (Some other))) ∙ fold-roll-Seq Bool Bool Bool written_step alternative_step branch_step (Seq-F.If place all (Some other))

of_branch : (x : Expr) (all : List Seq) → branch_written (roll-Branch (record { condition = x; body = all })) ≡ all_true (map is_written all)
of_branch x all = fold-roll-Branch Bool Bool Bool written_step alternative_step branch_step (record { condition = x; body = all })

of_alternative : (xs : List Choice) (all : List Seq) → alternative_written (roll-Alternative (record { choices = xs; body = all })) ≡ alternative_step (record { choices = xs; body = map is_written all })
of_alternative xs all = fold-roll-Alternative Bool Bool Bool written_step alternative_step branch_step (record { choices = xs; body = all })

-- ---- parts

abbrev pub Written : Seq → Type 0
Written s = IsTrue (is_written s)

abbrev MakesSeq : Rule Seq → Type 0
MakesSeq = Makes Seq Written

module _ (limit depth : ℕ) where
  pub some_elements : Makes (List WaveformElement) (λ (wave : List WaveformElement). 0 < length wave) (waveform limit depth)
  unfolding waveform
  some_elements wave ts n r = repeated_some WaveformElement (one (mark m.Comma) >> waveform_element limit depth) (r.first ∷ []) (omega arith) wave r.back r.back_count r.spells_back

  pub some_choices : Makes (List Choice) (λ (all : List Choice). 0 < length all) (choices limit depth)
  unfolding choices
  some_choices all ts n r =
      let first = r.spells_back in
      let rest = first.spells_back in
      let found = repeated_some Choice (one (mark m.Bar) >> one_choice limit depth) (first.first ∷ []) (omega arith) rest.first rest.front rest.front_count rest.spells_front in
      subst (λ (c : List Choice). 0 < length c) (sym rest.spells_back.spells_back.tree) found

  -- ---- simple statements

  signal_case : (x : Name) (how : Option DelayMechanism) (wave : List WaveformElement) (s : Seq) → s ≡ seq.Signal x how wave → 0 < length wave → Written s
  signal_case x how wave s e h = ap is_written e ∙ of_signal x how wave ∙ some_true WaveformElement wave h

  assignment_written : MakesSeq (assignment limit depth)
  unfolding assignment
  assignment_written s ts n r =
      ⊎_elim
      (λ a.
      let wave = a.spells_back.spells_back in
      signal_case r.first a.spells_back.first wave.first s wave.spells_back.spells_back.tree (some_elements wave.first wave.front wave.front_count wave.spells_front))
      (λ b.
      let value = b.spells_back in
      ap is_written value.spells_back.spells_back.tree
      ∙ (ap is_written (sym (rolls-Variable r.first value.first)) ∙ fold-roll-Seq Bool Bool Bool written_step alternative_step branch_step (Seq-F.Variable r.first value.first)))
      r.spells_back

  exit_written : MakesSeq (exit_statement limit depth)
  unfolding exit_statement
  exit_written s ts n r =
      let c = r.spells_back in
      ap is_written c.spells_back.spells_back.tree
      ∙ (ap is_written (sym (rolls-Exit r.first c.first)) ∙ fold-roll-Seq Bool Bool Bool written_step alternative_step branch_step (Seq-F.Exit r.first c.first))

  next_written : MakesSeq (next_statement limit depth)
  unfolding next_statement
  next_written s ts n r =
      let c = r.spells_back in
      ap is_written c.spells_back.spells_back.tree
      ∙ (ap is_written (sym (rolls-Next r.first c.first)) ∙ fold-roll-Seq Bool Bool Bool written_step alternative_step branch_step (Seq-F.Next r.first c.first))

  wait_written : MakesSeq (wait_statement limit depth)
  unfolding wait_statement
  wait_written s ts n r =
      let on = r.spells_back in
      let until = on.spells_back in
      let time = until.spells_back in
      ap is_written time.spells_back.spells_back.tree
      ∙ (ap is_written (sym (rolls-Wait r.first on.first until.first time.first)) ∙ fold-roll-Seq Bool Bool Bool written_step alternative_step branch_step (Seq-F.Wait r.first on.first until.first time.first))

  report_written : MakesSeq (report_statement limit depth)
  unfolding report_statement
  report_written s ts n r =
      let text = r.spells_back in
      let level = text.spells_back in
      ap is_written level.spells_back.spells_back.tree
      ∙ (ap is_written (sym (rolls-Report r.first (record { text = text.first; severity = level.first })))
      ∙ fold-roll-Seq Bool Bool Bool written_step alternative_step branch_step (Seq-F.Report r.first (record { text = text.first; severity = level.first })))

  break_written : MakesSeq (break_statement limit depth)
  unfolding break_statement
  break_written s ts n r =
      let elements = r.spells_back in
      let x = elements.spells_back in
      ap is_written x.spells_back.spells_back.tree
      ∙ (ap is_written (sym (rolls-Break r.first elements.first x.first)) ∙ fold-roll-Seq Bool Bool Bool written_step alternative_step branch_step (Seq-F.Break r.first elements.first x.first))

  null_written : MakesSeq (null_statement limit depth)
  unfolding null_statement
  null_written s ts n r =
      ap is_written r.spells_back.spells_back.tree
      ∙ (ap is_written (sym (rolls-Null r.first)) ∙ fold-roll-Seq Bool Bool Bool written_step alternative_step branch_step (Seq-F.Null r.first))

  simple_written : MakesSeq (simple_statement limit depth)
  unfolding simple_statement
  simple_written s ts n r =
      ⊎_elim (assignment_written s ts n)
      (⊎_elim (exit_written s ts n)
      (⊎_elim (next_written s ts n)
      (⊎_elim (wait_written s ts n)
      (⊎_elim
      (λ a. ap is_written a.spells_back.tree ∙ (ap is_written (sym (rolls-Assert a.first)) ∙ fold-roll-Seq Bool Bool Bool written_step alternative_step branch_step (Seq-F.Assert a.first)))
      (⊎_elim (report_written s ts n) (⊎_elim (break_written s ts n) (null_written s ts n)))))))
      r

-- ---- statements that hold others

module _ (allowed : Bool) (inner : Rule Seq) (limit depth : ℕ) (each : MakesSeq inner) where
  body_written : Makes (List Seq) AreWritten (body allowed inner limit depth)
  unfolding body
  body_written = repeated_each Seq Written inner [] each (All-nil Written)

  all_written : (all : List Seq) → AreWritten all → all_true (map is_written all) ≡ true
  all_written all h = all_are_true Seq is_written all h

  abbrev BranchIs : Branch → Type 0
  BranchIs b = branch_written b ≡ true

  branch_made : Makes Branch BranchIs (branch allowed inner limit depth)
  unfolding branch
  branch_made b ts n r =
      let all = r.spells_back.spells_back in
      ap branch_written all.spells_back.tree
      ∙ (of_branch r.first all.first ∙ all_written all.first (body_written all.first all.front all.front_count all.spells_front))

  if_none : (place : Place) (all : List Branch) → All BranchIs all → Written (seq.If place all None)
  if_none place all h = of_if place all ∙ and_true (all_true (map branch_written all)) true (all_are_true Branch branch_written all h) refl

  if_some : (place : Place) (all : List Branch) (other : List Seq) → All BranchIs all → AreWritten other → Written (seq.If place all (Some other))
  if_some place all other h g =
      of_if_else place all other ∙ and_true (all_true (map branch_written all)) (all_true (map is_written other)) (all_are_true Branch branch_written all h) (all_written other g)

  rest_written : (place : Place) (first : Branch) → BranchIs first → MakesSeq (rest_of_if allowed inner limit depth place first)
  unfolding rest_of_if
  rest_written place first h s ts n r =
      let other = r.spells_back in
      let all : All BranchIs r.first =
      repeated_each Branch BranchIs (one (word w.Elsif) >> branch allowed inner limit depth) (first ∷ []) (λ b us k q. branch_made b q.back q.back_count q.spells_back) (All-cons BranchIs first [] h (All-nil BranchIs))
      r.first r.front r.front_count r.spells_front in
      ⊎_elim
      (λ there.
      ap is_written other.spells_back.spells_back.tree
      ∙ (ap (λ (o : Option (List Seq)). is_written (seq.If place r.first o)) there.spells_back.tree
      ∙ if_some place r.first there.first all (body_written there.first there.spells_front.back there.spells_front.back_count there.spells_front.spells_back)))
      (λ missing.
      ap is_written other.spells_back.spells_back.tree ∙ (ap (λ (o : Option (List Seq)). is_written (seq.If place r.first o)) missing.tree ∙ if_none place r.first all))
      other.spells_front

  if_written : MakesSeq (if_statement allowed inner limit depth)
  unfolding if_statement
  if_written s ts n r =
      let first = r.spells_back in
      rest_written r.first first.first (branch_made first.first first.front first.front_count first.spells_front) s first.back first.back_count first.spells_back

  abbrev AlternativeIs : Alternative → Type 0
  AlternativeIs a = alternative_written a ≡ true

  alternative_made : Makes Alternative AlternativeIs (alternative allowed inner limit depth)
  unfolding alternative
  alternative_made a ts n r =
      let all = r.spells_back in
      ap alternative_written all.spells_back.tree
      ∙ (of_alternative r.first all.first
      ∙ and_true (has_some r.first) (all_true (map is_written all.first)) (some_true Choice r.first (some_choices limit depth r.first r.front r.front_count r.spells_front))
      (all_written all.first (body_written all.first all.front all.front_count all.spells_front)))

  case_written : MakesSeq (case_statement allowed inner limit depth)
  unfolding case_statement alternatives
  case_written s ts n r =
      let x = r.spells_back in
      let all = x.spells_back.spells_back in
      let first = all.spells_front in
      let each_of : All AlternativeIs all.first =
      repeated_each Alternative AlternativeIs (alternative allowed inner limit depth) (first.first ∷ []) alternative_made
      (All-cons AlternativeIs first.first [] (alternative_made first.first first.front first.front_count first.spells_front) (All-nil AlternativeIs))
      all.first first.back first.back_count first.spells_back in
      let some : 0 < length all.first = repeated_some Alternative (alternative allowed inner limit depth) (first.first ∷ []) (omega arith) all.first first.back first.back_count first.spells_back in
      ap is_written all.spells_back.spells_back.tree
      ∙ (of_case r.first x.first all.first
      ∙ and_true (has_some (map alternative_written all.first)) (all_true (map alternative_written all.first))
      (some_true Bool (map alternative_written all.first) (map_some Alternative Bool alternative_written all.first some))
      (all_are_true Alternative alternative_written all.first each_of))

  loop_rest : (place : Place) (how : Iteration) → MakesSeq (rest_of_loop allowed inner limit depth place how)
  unfolding rest_of_loop
  loop_rest place how s ts n r =
      ap is_written r.spells_back.spells_back.tree ∙ (of_loop place how r.first ∙ all_written r.first (body_written r.first r.front r.front_count r.spells_front))

  loop_written : MakesSeq (loop_statement allowed inner limit depth)
  unfolding loop_statement
  loop_written s ts n r =
      ⊎_elim
      (λ a.
      let rest = a.spells_back.spells_back in
      loop_rest a.first (iteration.While a.spells_back.first) s rest.back rest.back_count rest.spells_back)
      (⊎_elim
      (λ b.
      let rest = b.spells_back.spells_back in
      loop_rest b.first b.spells_back.first s rest.back rest.back_count rest.spells_back)
      (λ c. loop_rest c.first iteration.Endless s c.back c.back_count c.spells_back))
      r

  compound_written : MakesSeq (compound_statement allowed inner limit depth)
  unfolding compound_statement
  compound_written s ts n r = ⊎_elim (if_written s ts n) (⊎_elim (case_written s ts n) (loop_written s ts n)) r

pub statement_written : (limit depth : ℕ) → MakesSeq (statement limit depth)
unfolding statement
statement_written limit zero s ts n r = ⊎_elim (simple_written limit zero s ts n) (compound_written false nowhere limit zero (λ s ts n r. absurd r) s ts n) r
statement_written limit (suc depth) s ts n r =
    ⊎_elim (simple_written limit (suc depth) s ts n) (compound_written true (statement limit depth) limit depth (statement_written limit depth) s ts n) r
