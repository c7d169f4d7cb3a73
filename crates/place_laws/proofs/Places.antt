-- A rule for each place of a text, statement by statement.
use Rattle.std.proofs.Common.{◌≡◌, refl, ap, sym, ◌∙◌, subst, ℕ, suc, inl, inr, ⊎_elim, List, [], ◌∷◌, ◌++◌, length, append_assoc, append-nil, Some}
use Rattle.flat_expr.specs.declared.statement.Statement.{Statement, out-Statement}
use Rattle.flat_expr.specs.declared.statement.Statement.TheOpen.{Statement-F}
use Rattle.flat_expr.specs.declared.statement.DelayMechanism.{DelayMechanism}
use Rattle.flat_expr.specs.declared.statement.WaveElement.{WaveElement}
use Rattle.flat_expr.specs.declared.subtype.Constraint.{Constraint}
use Rattle.flat_design.specs.declared.objects.PathStep.{PathStep}
use Rattle.cycle_meaning.specs.Task.{Layer}
use Rattle.design_rules.specs.Ways.{parameter_in, LeadsTo}
use Rattle.design_rules.proofs.Each.{old_or_last, nothing_there}
use Rattle.place_laws.specs.Places.{EachPlace, HoldsHere, Stands, Assigns, AssignsHere, WholeStands, NoneStands, OneMoreStands, DriversAreFound}

module _ (P : List PathStep → List ℕ → ℕ → Layer → Type 0) where
  pub none_each : (steps : List PathStep) (ps : List ℕ) → EachPlace P steps ps []
  none_each steps ps [] inner k goal to = absurd (nothing_there k goal to.1)
  none_each steps ps (step ∷ more) inner k goal to = absurd (nothing_there step.statement to.0 to.2)

  -- the place itself
  at_place : (steps : List PathStep) (ps inner : List ℕ) (k n : ℕ) (layer goal : Layer) → k ≡ n → layer ≡ goal → inner ≡ [] → P steps ps n layer → P (steps ++ []) (ps ++ inner) k goal
  at_place steps ps inner k n layer goal e l i h =
      subst (λ (z : List PathStep). P z (ps ++ inner) k goal) (sym (append-nil steps))
      (subst (λ (z : List ℕ). P steps z k goal) (sym (append-nil ps) ∙ ap (λ (z : List ℕ). ps ++ z) (sym i))
      (subst (λ (z : ℕ). P steps ps z goal) (sym e) (subst (P steps ps n) l h)))

  -- a place inside it
  inside : (steps more : List PathStep) (step : PathStep) (ps inner last : List ℕ) (k n : ℕ) (layer found goal : Layer) → step.statement ≡ n → layer ≡ found → inner ≡ parameter_in found ++ last
      → (HoldsHere P steps ps step.statement found → P ((steps ++ step ∷ []) ++ more) ((ps ++ parameter_in found) ++ last) k goal)
      → HoldsHere P steps ps n layer → P (steps ++ step ∷ more) (ps ++ inner) k goal
  inside steps more step ps inner last k n layer found goal e l i go h =
      let all : HoldsHere P steps ps step.statement found = subst (λ (z : ℕ). HoldsHere P steps ps z found) (sym e) (subst (HoldsHere P steps ps n) l h) in
      subst (λ (z : List PathStep). P z (ps ++ inner) k goal) (append_assoc steps (step ∷ []) more)
      (subst (λ (z : List ℕ). P ((steps ++ step ∷ []) ++ more) z k goal) (append_assoc ps (parameter_in found) last ∙ ap (λ (z : List ℕ). ps ++ z) (sym i)) (go all))

  pub one_more_each : (steps : List PathStep) (ps : List ℕ) (body : List Statement) (s : Statement)
      → EachPlace P steps ps body → HoldsHere P steps ps (length body) (out-Statement s) → EachPlace P steps ps (body ++ s ∷ [])
  one_more_each steps ps body s old new [] inner k goal to =
      ⊎_elim
      (λ earlier. old [] inner k goal (to.0, earlier))
      (λ last. at_place steps ps inner k (length body) (out-Statement s) goal last.0 last.1 to.0 new.0)
      (old_or_last body s k goal to.1)
  one_more_each steps ps body s old new (step ∷ more) inner k goal to =
      ⊎_elim
      (λ earlier. old (step ∷ more) inner k goal (to.0, to.1, earlier, to.3, to.4, to.5))
      (λ last.
      inside steps more step ps inner to.1 k (length body) (out-Statement s) to.0 goal last.0 last.1 to.4
      (λ all. all.1 step.branch to.3 more to.1 k goal to.5) new)
      (old_or_last body s step.statement to.0 to.2)

pub none_stands : NoneStands
none_stands objects p = none_each (Stands objects p)

pub one_more_stands : OneMoreStands
one_more_stands objects p = one_more_each (Stands objects p)

pub whole_stands : WholeStands
whole_stands objects p variables each used =
    record {
      variables = variables;
      statements = λ steps ps k goal to. (each steps ps k goal to).allowed;
      drivers = used;
      ways = λ steps ps k number on condition timeout to. (each steps ps k (Statement-F.Wait number on condition timeout) to).placed;
      parameters = λ steps ps k goal to. (each steps ps k goal to).safe;
      nests = λ steps ps k goal to. (each steps ps k goal to).own;
    }

-- ---- assignments

later_at : (i : ℕ) (s : Statement) (body : List Statement) (steps : List PathStep) (ps : List ℕ) (k : ℕ) (c : Constraint) (m : DelayMechanism) (wave : List WaveElement)
    → LeadsTo steps ps k (Statement-F.SignalAssignment i c m wave) body → Assigns i (s ∷ body)
later_at i s body [] ps k c m wave to = ([], ps, suc k, c, m, wave, to)
later_at i s body (step ∷ more) ps k c m wave to = (record { statement = suc step.statement; branch = step.branch } ∷ more, ps, k, c, m, wave, to)

pub assigns_later : (i : ℕ) (s : Statement) (body : List Statement) → Assigns i body → Assigns i (s ∷ body)
assigns_later i s body h = later_at i s body h.0 h.1 h.2 h.3 h.4 h.5 h.6

pub assigns_first : (i : ℕ) (s : Statement) (body : List Statement) → AssignsHere i (out-Statement s) → Assigns i (s ∷ body)
assigns_first i s body (inl h) = ([], [], 0, h.0, h.1, h.2, (refl, ap Some h.3))
assigns_first i s body (inr h) =
    let to = h.2 in
    (record { statement = 0; branch = h.0 } ∷ to.0, parameter_in (out-Statement s) ++ to.1, to.2, to.3, to.4, to.5, (out-Statement s, to.1, refl, h.1, refl, to.6))

pub drivers_are_found : DriversAreFound
drivers_are_found = record { first = assigns_first; later = assigns_later }
