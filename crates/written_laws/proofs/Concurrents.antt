-- Concurrent and simultaneous statements that tokens spell.
use Rattle.std.proofs.Common.{ℕ, ◌<◌, ⊎_elim, List, [], ◌∷◌, length, fold, Option, sym, subst, arith}
use Rattle.std.specs.List.{All}
use Rattle.std.proofs.lemmas.List.Elements.{All-nil, All-cons, All-push}
use Rattle.ams_token.specs.declared.token.Place.{Place}
use Rattle.ams_token.specs.declared.token.Token.{Token}
use Rattle.ams_tree.specs.declared.concurrent.Concurrent.{Concurrent}
use Rattle.ams_tree.specs.declared.concurrent.ConcurrentStatement.{ConcurrentStatement}
use Rattle.ams_tree.specs.declared.concurrent.ConditionalWaveform.{ConditionalWaveform}
use Rattle.ams_tree.specs.declared.concurrent.SimultaneousAlternative.{SimultaneousAlternative}
use Rattle.ams_tree.specs.declared.expression.Expr.{Expr}
use Rattle.ams_tree.specs.declared.expression.Name.{Name}
use Rattle.ams_tree.specs.declared.sequential.Seq.{Seq}
use Rattle.ams_tree.specs.declared.sequential.WaveformElement.{WaveformElement}
use Rattle.ams_tree.specs.Rule.{Rule, SpellsAll}
use Rattle.ams_tree.specs.Expressions.{below}
use Rattle.ams_tree.specs.Statements.{statement}
use Rattle.ams_tree.specs.Concurrents.{when_else, otherwise, conditional_waveforms, concurrent_assignment, concurrent_break, simultaneous_alternative, simultaneous_alternatives, simultaneous_if, simultaneous_case, process_body, process_parts, maps, instance, unlabelled, concurrent}
use Rattle.written_laws.specs.Written.{AreWritten, IsWritten}
use Rattle.written_laws.proofs.Lists.{Makes, repeated_each, repeated_some}
use Rattle.written_laws.proofs.Statements.{Written, some_elements, some_choices, statement_written}

abbrev MakesStatement : Rule ConcurrentStatement → Type 0
MakesStatement = Makes ConcurrentStatement IsWritten

-- ---- waveforms with conditions

abbrev Waves : Type 0
Waves = List ConditionalWaveform × List WaveformElement

abbrev HasElements : ConditionalWaveform → Type 0
HasElements w = 0 < length w.elements

abbrev AreWaves : Waves → Type 0
AreWaves so_far = All HasElements so_far.0 × (0 < length so_far.1)

module _ (limit depth : ℕ) where
  wave_written : Makes (Expr × List WaveformElement) (λ (w : Expr × List WaveformElement). 0 < length w.1) (otherwise limit depth)
  unfolding otherwise
  wave_written w ts n r =
      let x = r.spells_back in
      let wave = x.spells_back.spells_back in
      subst (λ (o : Expr × List WaveformElement). 0 < length o.1) (sym wave.spells_back.tree) (some_elements limit depth wave.first wave.front wave.front_count wave.spells_front)

  waves_written : (xs : List (Expr × List WaveformElement)) (start : Waves) (ts : List Token) (n : ℕ) → SpellsAll (otherwise limit depth) xs ts n → AreWaves start → AreWaves (fold when_else start xs)
  waves_written [] start ts n r h = h
  waves_written (x ∷ more) start ts n r h =
      waves_written more (when_else start x) r.back r.back_count r.spells_back
      (All-push HasElements start.0 (record { elements = start.1; condition = x.0 }) h.0 h.1, wave_written x r.front r.front_count r.spells_front)

  abbrev AreConditional : List ConditionalWaveform × List WaveformElement × Option Expr → Type 0
  AreConditional w = All HasElements w.0 × (0 < length w.1)

  conditional_written : Makes (List ConditionalWaveform × List WaveformElement × Option Expr) AreConditional (conditional_waveforms limit depth)
  unfolding conditional_waveforms
  conditional_written w ts n r =
      let waves = r.spells_back in
      let found = waves.spells_front in
      let start : AreWaves ([], r.first) = (All-nil HasElements, some_elements limit depth r.first r.front r.front_count r.spells_front) in
      let all : AreWaves waves.first = subst AreWaves (sym found.1) (waves_written found.0 ([], r.first) waves.front waves.front_count found.2 start) in
      subst AreConditional (sym waves.spells_back.spells_back.tree) all

  assignment_written : MakesStatement (concurrent_assignment limit depth)
  unfolding concurrent_assignment
  assignment_written s ts n r =
      let how = r.spells_back.spells_back in
      let waves = how.spells_back in
      let found : AreConditional waves.first = conditional_written waves.first waves.front waves.front_count waves.spells_front in
      subst IsWritten (sym waves.spells_back.spells_back.tree) found

  -- ---- statements that hold none of these lists

  break_written : MakesStatement (concurrent_break limit depth)
  unfolding concurrent_break
  break_written s ts n r = subst IsWritten (sym r.spells_back.spells_back.spells_back.spells_back.spells_back.tree) tt

  if_written : (place : Place) → MakesStatement (simultaneous_if limit depth place)
  unfolding simultaneous_if
  if_written place s ts n r = subst IsWritten (sym r.spells_back.spells_back.spells_back.spells_back.tree) tt

  -- ---- simultaneous cases

  abbrev HasChoices : SimultaneousAlternative → Type 0
  HasChoices a = 0 < length a.choices

  alternative_written : Makes SimultaneousAlternative HasChoices (simultaneous_alternative limit depth)
  unfolding simultaneous_alternative
  alternative_written a ts n r = subst HasChoices (sym r.spells_back.spells_back.tree) (some_choices limit depth r.first r.front r.front_count r.spells_front)

  case_written : (place : Place) → MakesStatement (simultaneous_case limit depth place)
  unfolding simultaneous_case simultaneous_alternatives
  case_written place s ts n r =
      let all = r.spells_back.spells_back in
      let first = all.spells_front in
      let one : HasChoices first.first = alternative_written first.first first.front first.front_count first.spells_front in
      let each : All HasChoices all.first =
      repeated_each SimultaneousAlternative HasChoices (simultaneous_alternative limit depth) (first.first ∷ []) alternative_written (All-cons HasChoices first.first [] one (All-nil HasChoices))
      all.first first.back first.back_count first.spells_back in
      let some : 0 < length all.first =
      repeated_some SimultaneousAlternative (simultaneous_alternative limit depth) (first.first ∷ []) (omega arith) all.first first.back first.back_count first.spells_back in
      subst IsWritten (sym all.spells_back.spells_back.tree) (some, each)

  -- ---- processes

  abbrev BodyIs : List Seq × Option Name → Type 0
  BodyIs b = AreWritten b.0

  body_written : Makes (List Seq × Option Name) BodyIs (process_body limit depth)
  unfolding process_body
  body_written b ts n r =
      subst BodyIs (sym r.spells_back.spells_back.spells_back.spells_back.spells_back.tree)
      (repeated_each Seq Written (statement limit depth) [] (statement_written limit depth) (All-nil Written) r.first r.front r.front_count r.spells_front)

  process_written : (at : Place) → MakesStatement (process_parts limit depth at)
  unfolding process_parts
  process_written at s ts n r =
      let y = r.spells_back in
      let found : BodyIs y.first = body_written y.first y.front y.front_count y.spells_front in
      subst IsWritten (sym y.spells_back.tree) found

-- ---- the whole

module _ (limit depth : ℕ) where
  unlabelled_written : MakesStatement (unlabelled limit depth)
  unfolding unlabelled
  unlabelled_written s ts n r =
      ⊎_elim (λ a. process_written limit (below depth) a.first s a.back a.back_count a.spells_back)
      (⊎_elim (λ b. if_written limit (below depth) b.first s b.back b.back_count b.spells_back)
      (⊎_elim (λ c. case_written limit (below depth) c.first s c.back c.back_count c.spells_back)
      (⊎_elim (λ d. subst IsWritten (sym d.spells_back.tree) tt)
      (⊎_elim (break_written limit depth s ts n)
      (⊎_elim (assignment_written limit depth s ts n) (λ e. subst IsWritten (sym e.spells_back.tree) tt))))))
      r

  instance_written : MakesStatement (instance limit depth)
  unfolding instance maps
  instance_written s ts n r = subst IsWritten (sym r.spells_back.spells_back.spells_back.spells_back.tree) tt

  pub concurrent_written : Makes Concurrent (λ (c : Concurrent). IsWritten c.statement) (concurrent limit depth)
  unfolding concurrent
  concurrent_written c ts n r =
      ⊎_elim
      (λ a.
      let x = a.spells_back.spells_back in
      subst (λ (c : Concurrent). IsWritten c.statement) (sym x.spells_back.tree)
      (⊎_elim (instance_written x.first x.front x.front_count) (unlabelled_written x.first x.front x.front_count) x.spells_front))
      (λ b. subst (λ (c : Concurrent). IsWritten c.statement) (sym b.spells_back.tree) (unlabelled_written b.first b.front b.front_count b.spells_front))
      r
