-- A rule for each statement of a text, statement by statement.
use Rattle.std.proofs.Common.{◌≡◌, refl, ap, sym, ◌∙◌, subst, ℕ, zero, suc, ◌⊎◌, inl, inr, ⊎_elim, List, [], ◌∷◌, ◌++◌, length, append_assoc, append-nil, Option, Some, None, slice_get, arith}
use Rattle.flat_expr.specs.declared.statement.Statement.{Statement, out-Statement}
use Rattle.cycle_meaning.specs.Task.{Layer}
use Rattle.design_rules.specs.Ways.{layer_of, layer_at, parameter_in, EachStatement}
use Rattle.design_rules.specs.Building.{EachIn, HoldsAt, WholeIsAllowed, NoneIsAllowed, OneMoreIsAllowed}
use Rattle.design_rules.specs.Statements.{IsAllowed}

abbrev pub layer_or : Layer → Option Layer → Layer
layer_or d None = d
layer_or d (Some x) = x

-- a statement of a longer list is an earlier one or the last
pub old_or_last : (body : List Statement) (s : Statement) (k : ℕ) (layer : Layer) → layer_at k (body ++ s ∷ []) ≡ Some layer
    → (layer_at k body ≡ Some layer) ⊎ ((k ≡ length body) × (out-Statement s ≡ layer))
old_or_last [] s zero layer h = inr (refl, ap (layer_or layer) h)
old_or_last [] s (suc k) layer h = inl h
old_or_last (x ∷ body) s zero layer h = inl h
old_or_last (x ∷ body) s (suc k) layer h = ⊎_elim (λ old. inl old) (λ last. inr (ap suc last.0, last.1)) (old_or_last body s k layer h)

pub nothing_there : (i : ℕ) (layer : Layer) → layer_of (slice_get [] i) ≡ Some layer → ⊥
nothing_there zero layer e = grind arith
nothing_there (suc i) layer e = grind arith

pub whole_each : (P : List ℕ → Layer → Type 0) (body : List Statement) → EachIn P [] body → EachStatement P body
whole_each P body h steps ps k goal to = h steps ps k goal to

pub none_each : (P : List ℕ → Layer → Type 0) (ps : List ℕ) → EachIn P ps []
none_each P ps [] inner k goal to = absurd (nothing_there k goal to.1)
none_each P ps (step ∷ more) inner k goal to = absurd (nothing_there step.statement to.0 to.2)

pub one_more_each : (P : List ℕ → Layer → Type 0) (ps : List ℕ) (body : List Statement) (s : Statement)
    → EachIn P ps body → HoldsAt P ps (out-Statement s) → EachIn P ps (body ++ s ∷ [])
one_more_each P ps body s old new [] inner k goal to =
    ⊎_elim
    (λ earlier. old [] inner k goal (to.0, earlier))
    (λ last. subst (λ (z : List ℕ). P z goal) (sym (append-nil ps) ∙ ap (λ (z : List ℕ). ps ++ z) (sym to.0)) (subst (P ps) last.1 new.0))
    (old_or_last body s k goal to.1)
one_more_each P ps body s old new (step ∷ more) inner k goal to =
    ⊎_elim
    (λ earlier. old (step ∷ more) inner k goal (to.0, to.1, earlier, to.3, to.4, to.5))
    (λ last.
    let all : HoldsAt P ps to.0 = subst (HoldsAt P ps) last.1 new in
    subst (λ (z : List ℕ). P z goal) (append_assoc ps (parameter_in to.0) to.1 ∙ ap (λ (z : List ℕ). ps ++ z) (sym to.4)) (all.1 step.branch to.3 more to.1 k goal to.5))
    (old_or_last body s step.statement to.0 to.2)

pub whole_is_allowed : WholeIsAllowed
whole_is_allowed objects p h = whole_each (IsAllowed objects p) p.statements h

pub none_is_allowed : NoneIsAllowed
none_is_allowed objects p ps = none_each (IsAllowed objects p) ps

pub one_more_is_allowed : OneMoreIsAllowed
one_more_is_allowed objects p ps body s old new = one_more_each (IsAllowed objects p) ps body s old new
