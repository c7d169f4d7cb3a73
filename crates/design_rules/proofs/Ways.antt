-- The ways to wait statements, and the parameters of loops, statement by statement.
use Rattle.std.proofs.Common.{◌≡◌, ap, sym, ◌∙◌, subst, ℕ, zero, suc, ⊎_elim, List, [], ◌∷◌, ◌++◌, length, append_assoc, append-nil, Some, slice_get, arith}
use Rattle.flat_expr.specs.declared.statement.Statement.TheOpen.{Statement-F}
use Rattle.flat_design.specs.declared.objects.PathStep.{PathStep}
use Rattle.flat_design.specs.declared.objects.WaitPlace.{WaitPlace}
use Rattle.cycle_meaning.specs.Task.{Layer}
use Rattle.design_rules.specs.Ways.{parameter_in, way_to, IsSafe}
use Rattle.design_rules.specs.Building.{IsPlaced, IsRightAt, WholeIsRight, NoneIsRight, OneMoreIsRight, MoreWaitsAreRight, WholeIsSafe, NoneIsSafe, OneMoreIsSafe}
use Rattle.design_rules.proofs.Each.{old_or_last, nothing_there, whole_each, none_each, one_more_each}

pub whole_is_right : WholeIsRight
whole_is_right p h steps ps k number on condition timeout to = h steps ps k number on condition timeout to

pub none_is_right : NoneIsRight
none_is_right waits steps ps [] inner k number on condition timeout to = absurd (nothing_there k (Statement-F.Wait number on condition timeout) to.1)
none_is_right waits steps ps (step ∷ more) inner k number on condition timeout to = absurd (nothing_there step.statement to.0 to.2)

-- where a statement is right, so is each way through it
through : (waits : List WaitPlace) (steps : List PathStep) (ps : List ℕ) (step : PathStep) (more : List PathStep) (inner : List ℕ) (k number : ℕ) (goal : Layer) (layer : Layer) (last : List ℕ)
    → slice_get waits number ≡ Some (record { path = (steps ++ step ∷ []) ++ way_to more k; parameters = (ps ++ parameter_in layer) ++ last })
    → inner ≡ parameter_in layer ++ last
    → slice_get waits number ≡ Some (record { path = steps ++ way_to (step ∷ more) k; parameters = ps ++ inner })
through waits steps ps step more inner k number goal layer last h e =
    h
    ∙ (ap (λ (z : List PathStep). Some (record { path = z; parameters = (ps ++ parameter_in layer) ++ last })) (append_assoc steps (step ∷ []) (way_to more k))
    ∙ ap (λ (z : List ℕ). Some (record { path = steps ++ way_to (step ∷ more) k; parameters = z })) (append_assoc ps (parameter_in layer) last ∙ ap (λ (z : List ℕ). ps ++ z) (sym e)))

pub one_more_is_right : OneMoreIsRight
one_more_is_right waits steps ps body s old new [] inner k number on condition timeout to =
    ⊎_elim
    (λ earlier. old [] inner k number on condition timeout (to.0, earlier))
    (λ last.
    (let placed : IsPlaced waits steps ps (length body) (Statement-F.Wait number on condition timeout) = subst (IsPlaced waits steps ps (length body)) last.1 new.0 in
    placed
    ∙ (ap (λ (n : ℕ). Some (record { path = way_to steps n; parameters = ps })) (sym last.0)
    ∙ ap (λ (z : List ℕ). Some (record { path = way_to steps k; parameters = z })) (sym (append-nil ps) ∙ ap (λ (z : List ℕ). ps ++ z) (sym to.0)))))
    (old_or_last body s k (Statement-F.Wait number on condition timeout) to.1)
one_more_is_right waits steps ps body s old new (step ∷ more) inner k number on condition timeout to =
    ⊎_elim
    (λ earlier. old (step ∷ more) inner k number on condition timeout (to.0, to.1, earlier, to.3, to.4, to.5))
    (λ last.
    through waits steps ps step more inner k number (Statement-F.Wait number on condition timeout) to.0 to.1
    (let all : IsRightAt waits steps ps step.statement to.0 =
    subst (λ (n : ℕ). IsRightAt waits steps ps n to.0) (sym last.0) (subst (IsRightAt waits steps ps (length body)) last.1 new) in
    all.1 step.branch to.3 more to.1 k number on condition timeout to.5)
    to.4)
    (old_or_last body s step.statement to.0 to.2)

still_there : (waits more : List WaitPlace) (i : ℕ) (w : WaitPlace) → slice_get waits i ≡ Some w → slice_get (waits ++ more) i ≡ Some w
still_there [] more i w h = absurd (grind arith)
still_there (x ∷ waits) more zero w h = h
still_there (x ∷ waits) more (suc i) w h = still_there waits more i w h

pub more_waits_are_right : MoreWaitsAreRight
more_waits_are_right waits more steps ps body h rest inner k number on condition timeout to =
    still_there waits more number _ (h rest inner k number on condition timeout to)

-- ---- parameters

pub whole_is_safe : WholeIsSafe
whole_is_safe p h = whole_each (IsSafe (length p.variables)) p.statements h

pub none_is_safe : NoneIsSafe
none_is_safe n ps = none_each (IsSafe n) ps

pub one_more_is_safe : OneMoreIsSafe
one_more_is_safe n ps body s old new = one_more_each (IsSafe n) ps body s old new
