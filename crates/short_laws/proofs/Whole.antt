-- Trees that tokens spell have no more statements and branches than tokens.
use Rattle.std.proofs.Common.{◌≤◌, ◌<◌, ℕ, ◌+◌, ⊎_elim, List, [], ◌∷◌, length, sym, subst, arith}
use Rattle.std.specs.List.{All}
use Rattle.std.proofs.lemmas.List.Elements.{All-nil}
use Rattle.ams_token.specs.declared.word.Word.TheVariants as w
use Rattle.ams_token.specs.declared.token.Place.{Place}
use Rattle.ams_tree.specs.declared.concurrent.Concurrent.{Concurrent}
use Rattle.ams_tree.specs.declared.concurrent.ConcurrentStatement.{ConcurrentStatement}
use Rattle.ams_tree.specs.declared.concurrent.Equation.{Equation}
use Rattle.ams_tree.specs.declared.concurrent.SimultaneousAlternative.{SimultaneousAlternative}
use Rattle.ams_tree.specs.declared.concurrent.SimultaneousBranch.{SimultaneousBranch}
use Rattle.ams_tree.specs.declared.design.DesignFile.{DesignFile}
use Rattle.ams_tree.specs.declared.design.DesignUnit.{DesignUnit}
use Rattle.ams_tree.specs.declared.sequential.Assertion.{Assertion}
use Rattle.ams_tree.specs.declared.sequential.Choice.{Choice}
use Rattle.ams_tree.specs.Rule.{one, ◌>>◌}
use Rattle.ams_tree.specs.Terminals.{word}
use Rattle.ams_tree.specs.Expressions.{below}
use Rattle.ams_tree.specs.Statements.{choices, assertion}
use Rattle.ams_tree.specs.Concurrents.{equation, concurrent_assignment, concurrent_break, simultaneous_branch, simultaneous_alternative, simultaneous_alternatives, simultaneous_if, simultaneous_case, process_parts, maps, instance, unlabelled, concurrent}
use Rattle.ams_tree.specs.Designs.{library_clause, use_clause, entity, architecture, design_unit, design_file}
use Rattle.short_laws.specs.Short.{most_tokens, BranchesAreFew, UnitIsShort, TextsWriteShortTrees}
use Rattle.short_laws.proofs.Tokens.{few_tokens}
use Rattle.short_laws.proofs.Lists.{Takes, one_token, front_takes, back_takes, front_within, back_within, others_within, first_within, Makes, repeated_few, repeated_each}

-- ---- texts with a token

module _ (limit depth : ℕ) where
  equation_takes : Takes Equation (equation limit depth)
  unfolding equation
  equation_takes a ts n r =
      let y = r.spells_back in
      back_takes ts r.front r.back r.tokens (front_takes r.back y.front y.back y.tokens (one_token Place _ _ _ _ y.front _ y.spells_front))

  assignment_takes : Takes ConcurrentStatement (concurrent_assignment limit depth)
  unfolding concurrent_assignment
  assignment_takes a ts n r = front_takes ts r.front r.back r.tokens (one_token _ _ _ _ _ r.front _ r.spells_front)

  break_takes : Takes ConcurrentStatement (concurrent_break limit depth)
  unfolding concurrent_break
  break_takes a ts n r = front_takes ts r.front r.back r.tokens (one_token _ _ _ _ _ r.front _ r.spells_front)

  assertion_takes : Takes Assertion (assertion limit depth)
  unfolding assertion
  assertion_takes a ts n r = front_takes ts r.front r.back r.tokens (one_token _ _ _ _ _ r.front _ r.spells_front)

  choices_take : Takes (List Choice) (choices limit depth)
  unfolding choices
  choices_take a ts n r = front_takes ts r.front r.back r.tokens (one_token _ _ _ _ _ r.front _ r.spells_front)

  alternative_takes : Takes SimultaneousAlternative (simultaneous_alternative limit depth)
  unfolding simultaneous_alternative
  alternative_takes a ts n r = front_takes ts r.front r.back r.tokens (choices_take r.first r.front r.front_count r.spells_front)

  branch_takes : Takes SimultaneousBranch (simultaneous_branch limit depth)
  unfolding simultaneous_branch
  branch_takes a ts n r =
      let y = r.spells_back in
      back_takes ts r.front r.back r.tokens (front_takes r.back y.front y.back y.tokens (one_token _ _ _ _ _ y.front _ y.spells_front))

  elsif_takes : Takes SimultaneousBranch (one (word w.Elsif) >> simultaneous_branch limit depth)
  elsif_takes a ts n r = front_takes ts r.front r.back r.tokens (one_token _ _ _ _ _ r.front _ r.spells_front)

  unlabelled_takes : Takes ConcurrentStatement (unlabelled limit depth)
  unfolding unlabelled
  unlabelled_takes s ts n r =
      ⊎_elim (λ a. front_takes ts a.front a.back a.tokens (one_token _ _ _ _ _ a.front _ a.spells_front))
      (⊎_elim (λ b. front_takes ts b.front b.back b.tokens (one_token _ _ _ _ _ b.front _ b.spells_front))
      (⊎_elim (λ c. front_takes ts c.front c.back c.tokens (one_token _ _ _ _ _ c.front _ c.spells_front))
      (⊎_elim (λ d. front_takes ts d.front d.back d.tokens (assertion_takes d.first d.front d.front_count d.spells_front))
      (⊎_elim (break_takes s ts n)
      (⊎_elim (assignment_takes s ts n) (λ e. front_takes ts e.front e.back e.tokens (equation_takes e.first e.front e.front_count e.spells_front)))))))
      r

  concurrent_takes : Takes Concurrent (concurrent limit depth)
  unfolding concurrent
  concurrent_takes c ts n r =
      ⊎_elim (λ a. front_takes ts a.front a.back a.tokens (one_token _ _ _ _ _ a.front _ a.spells_front))
      (λ b. front_takes ts b.front b.back b.tokens (unlabelled_takes b.first b.front b.front_count b.spells_front))
      r

  -- ---- choices

  if_few : (place : Place) → Makes ConcurrentStatement BranchesAreFew (simultaneous_if limit depth place)
  unfolding simultaneous_if
  if_few place s ts n le r =
      let all = r.spells_back in
      let some : 0 < length r.front = branch_takes r.first r.front r.front_count r.spells_front in
      let few : length all.first ≤ 1 + length all.front = repeated_few SimultaneousBranch (one (word w.Elsif) >> simultaneous_branch limit depth) (r.first ∷ []) elsif_takes all.first all.front all.front_count all.spells_front in
      subst BranchesAreFew (sym all.spells_back.spells_back.spells_back.tree) (others_within ts r.front r.back all.front all.back (length all.first) r.tokens all.tokens some few le)

  case_few : (place : Place) → Makes ConcurrentStatement BranchesAreFew (simultaneous_case limit depth place)
  unfolding simultaneous_case simultaneous_alternatives
  case_few place s ts n le r =
      let uses = r.spells_back in
      let all = uses.spells_back in
      let first = all.spells_front in
      let some : 0 < length first.front = alternative_takes first.first first.front first.front_count first.spells_front in
      let few : length all.first ≤ 1 + length first.back = repeated_few SimultaneousAlternative (simultaneous_alternative limit depth) (first.first ∷ []) alternative_takes all.first first.back first.back_count first.spells_back in
      let within : length all.front ≤ most_tokens = front_within uses.back all.front all.back all.tokens (back_within r.back uses.front uses.back uses.tokens (back_within ts r.front r.back r.tokens le)) in
      subst BranchesAreFew (sym all.spells_back.spells_back.tree) (first_within all.front first.front first.back (length all.first) first.tokens some few within)

  -- ---- statements

  process_few : (at : Place) → Makes ConcurrentStatement BranchesAreFew (process_parts limit depth at)
  unfolding process_parts
  process_few at s ts n le r = subst BranchesAreFew (sym r.spells_back.spells_back.tree) tt

  break_few : Makes ConcurrentStatement BranchesAreFew (concurrent_break limit depth)
  unfolding concurrent_break
  break_few s ts n le r = subst BranchesAreFew (sym r.spells_back.spells_back.spells_back.spells_back.spells_back.tree) tt

  assignment_few : Makes ConcurrentStatement BranchesAreFew (concurrent_assignment limit depth)
  unfolding concurrent_assignment
  assignment_few s ts n le r = subst BranchesAreFew (sym r.spells_back.spells_back.spells_back.spells_back.spells_back.tree) tt

  instance_few : Makes ConcurrentStatement BranchesAreFew (instance limit depth)
  unfolding instance maps
  instance_few s ts n le r = subst BranchesAreFew (sym r.spells_back.spells_back.spells_back.spells_back.tree) tt

module _ (limit depth : ℕ) where
  unlabelled_few : Makes ConcurrentStatement BranchesAreFew (unlabelled limit depth)
  unfolding unlabelled
  unlabelled_few s ts n le r =
      ⊎_elim (λ a. process_few limit (below depth) a.first s a.back a.back_count (back_within ts a.front a.back a.tokens le) a.spells_back)
      (⊎_elim (λ b. if_few limit (below depth) b.first s b.back b.back_count (back_within ts b.front b.back b.tokens le) b.spells_back)
      (⊎_elim (λ c. case_few limit (below depth) c.first s c.back c.back_count (back_within ts c.front c.back c.tokens le) c.spells_back)
      (⊎_elim (λ d. subst BranchesAreFew (sym d.spells_back.tree) tt)
      (⊎_elim (break_few limit depth s ts n le)
      (⊎_elim (assignment_few limit depth s ts n le) (λ e. subst BranchesAreFew (sym e.spells_back.tree) tt))))))
      r

  abbrev Few : Concurrent → Type 0
  Few c = BranchesAreFew c.statement

  concurrent_few : Makes Concurrent Few (concurrent limit depth)
  unfolding concurrent
  concurrent_few c ts n le r =
      ⊎_elim
      (λ a.
      let colon = a.spells_back in
      let x = colon.spells_back in
      let within : length x.front ≤ most_tokens = front_within colon.back x.front x.back x.tokens (back_within a.back colon.front colon.back colon.tokens (back_within ts a.front a.back a.tokens le)) in
      subst Few (sym x.spells_back.tree) (⊎_elim (instance_few limit depth x.first x.front x.front_count within) (unlabelled_few x.first x.front x.front_count within) x.spells_front))
      (λ b. subst Few (sym b.spells_back.tree) (unlabelled_few b.first b.front b.front_count (front_within ts b.front b.back b.tokens le) b.spells_front))
      r

  -- ---- units

  entity_short : Makes DesignUnit UnitIsShort (entity limit depth)
  unfolding entity
  entity_short u ts n le r = subst UnitIsShort (sym r.spells_back.spells_back.spells_back.spells_back.tree) tt

  architecture_short : Makes DesignUnit UnitIsShort (architecture limit depth)
  unfolding architecture
  architecture_short u ts n le r =
      let xs = r.spells_back in
      let begin = xs.spells_back in
      let ys = begin.spells_back in
      let within : length ys.front ≤ most_tokens =
      front_within begin.back ys.front ys.back ys.tokens
      (back_within xs.back begin.front begin.back begin.tokens (back_within r.back xs.front xs.back xs.tokens (back_within ts r.front r.back r.tokens le))) in
      let few : length ys.first ≤ 0 + length ys.front = repeated_few Concurrent (concurrent limit depth) [] (concurrent_takes limit depth) ys.first ys.front ys.front_count ys.spells_front in
      subst UnitIsShort (sym ys.spells_back.spells_back.tree)
      (record {
        statements = omega (arith, few, within);
        branches = repeated_each Concurrent Few (concurrent limit depth) [] concurrent_few (All-nil Few) ys.first ys.front ys.front_count within ys.spells_front;
      })

  library_short : Makes DesignUnit UnitIsShort library_clause
  unfolding library_clause
  library_short u ts n le r = subst UnitIsShort (sym r.spells_back.spells_back.spells_back.tree) tt

  use_short : Makes DesignUnit UnitIsShort use_clause
  unfolding use_clause
  use_short u ts n le r = subst UnitIsShort (sym r.spells_back.spells_back.spells_back.spells_back.tree) tt

  unit_short : Makes DesignUnit UnitIsShort (design_unit limit depth)
  unfolding design_unit
  unit_short u ts n le r = ⊎_elim (library_short u ts n le) (⊎_elim (use_short u ts n le) (⊎_elim (entity_short u ts n le) (architecture_short u ts n le))) r

  abbrev FileIsShort : DesignFile → Type 0
  FileIsShort file = All UnitIsShort file.units

  file_short : Makes DesignFile FileIsShort (design_file limit depth)
  unfolding design_file
  file_short file ts n le r =
      subst FileIsShort (sym r.spells_back.tree)
      (repeated_each DesignUnit UnitIsShort (design_unit limit depth) [] unit_short (All-nil UnitIsShort) r.first r.front r.front_count (front_within ts r.front r.back r.tokens le) r.spells_front)

pub texts_write_short_trees : TextsWriteShortTrees
texts_write_short_trees = record {
  tokens = λ text found h. few_tokens text found h;
  trees = λ levels operators file ts le spelled. file_short operators levels file ts spelled.0 le spelled.2;
}
