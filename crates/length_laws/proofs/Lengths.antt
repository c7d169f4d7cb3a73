-- Branches of one length, from notes without faults.
use Rattle.std.proofs.Common.{◌≡◌, ◌<◌, ℕ, Bool, true, false, if◌then◌else◌, List, [], ◌∷◌, ◌++◌, length, Option, refl}
use Rattle.ams_token.specs.declared.token.Place.{Place}
use Rattle.ams_tree.specs.declared.concurrent.Equation.{Equation}
use Rattle.ams_tree.specs.declared.concurrent.SimultaneousAlternative.{SimultaneousAlternative}
use Rattle.ams_tree.specs.declared.concurrent.SimultaneousBranch.{SimultaneousBranch}
use Rattle.ams_tree.specs.declared.expression.Expr.{Expr}
use Rattle.flat_design.specs.declared.objects.Equation.{Equation as Made}
use Rattle.flat_design.specs.declared.objects.Objects.{Objects}
use Rattle.name_scope.specs.declared.scope.Scope.{Scope}
use Rattle.elab_meaning.specs.declared.fault.Cause.{Cause}
use Rattle.elab_meaning.specs.declared.fault.Cause.TheVariants.{WrongType, UnequalBranches}
use Rattle.elab_meaning.specs.declared.fault.Fault.{Fault}
use Rattle.elab_meaning.specs.declared.fault.Notes.{Notes}
use Rattle.elab_meaning.specs.declared.part.Part.{Part}
use Rattle.elab_meaning.specs.declared.part.Part.TheVariants.{Kept, Wrong, Hidden}
use Rattle.elab_meaning.specs.Notes.{noted}
use Rattle.elab_meaning.specs.Parts.{both, closed}
use Rattle.unit_meaning.specs.Settings.{Setting, choosing, typed, listed}
use Rattle.unit_meaning.specs.Cases.{nothing_seen}
use Rattle.unit_meaning.specs.Sequential.{kind_known}
use Rattle.unit_meaning.specs.Simultaneous.{same_lengths, first_length, compared, if_arm, last_arm, chosen_if, if_lengths, if_statement, case_arms, chosen_case, case_lengths, case_statement}
use Rattle.design_rules.specs.Types.{equation_scope, sizes_of, IsVisible}
use Rattle.design_rules.specs.Equations.{IsEquation}
use Rattle.typed_laws.specs.Fitting.{ScopeFits}
use Rattle.part_laws.specs.Parts.{OnKept}
use Rattle.equation_laws.proofs.Equations.{statements_make_equations}
use Rattle.choice_laws.specs.Choices.{IsFine, AsksValues, CountsOf}
use Rattle.choice_laws.proofs.Cases.{choices_are_right}
use Rattle.length_laws.specs.Lengths.{BranchesHaveOneLength}

not_empty : (A : Type 0) (xs : List A) (x : A) → (xs ++ x ∷ []) ≡ [] → ⊥
not_empty A [] x h = absurd (cc)
not_empty A (y ∷ ys) x h = absurd (cc)

noted_some : (place : Place) (cause : Cause) (n : Notes) → (noted place cause n).faults ≡ [] → ⊥
noted_some place cause n h = not_empty Fault n.faults (record { place = place; cause = cause }) h

before_closed : (A : Type 0) (place : Place) (p : Part A) (n : Notes) → (closed place p n).faults ≡ [] → n.faults ≡ []
before_closed A place (Kept a) n h = h
before_closed A place Wrong n h = absurd (noted_some place WrongType n h)
before_closed A place Hidden n h = h

one_length : (place : Place) (lengths : List ℕ) (n : Notes) → (compared place lengths n).faults ≡ [] → same_lengths lengths ≡ true
one_length place lengths n = go (same_lengths lengths)
  where
    go : (b : Bool) → (if b then n else noted place UnequalBranches n).faults ≡ [] → b ≡ true
    go true h = refl
    go false h = absurd (noted_some place UnequalBranches n h)

if_one : (w : Setting) (scope : Scope) (place : Place) (all : List SimultaneousBranch) (last : Option (List Equation)) (n : Notes)
    → (if_statement w scope place all last n).0.faults ≡ [] → same_lengths (if_lengths all last) ≡ true
if_one w scope place all last n h =
    let arms = listed (if_arm w scope) all n in
    let rest = last_arm w scope last arms.0 in
    one_length place (if_lengths all last) rest.0
    (before_closed Made place (both (chosen_if (first_length (if_lengths all last))) arms.1 rest.1) (compared place (if_lengths all last) rest.0) h)

case_one : (w : Setting) (scope : Scope) (place : Place) (x : Expr) (all : List SimultaneousAlternative) (n : Notes)
    → (case_statement w scope place x all n).0.faults ≡ [] → same_lengths (case_lengths all) ≡ true
case_one w scope place x all n h =
    let e = typed w scope choosing x n in
    let arms = case_arms w scope (kind_known e.1) nothing_seen all e.0 in
    one_length place (case_lengths all) arms.0
    (before_closed Made place (both (chosen_case w arms.1.0 (first_length (case_lengths all))) e.1 arms.1.1) (compared place (case_lengths all) arms.0) h)

pub branches_have_one_length : BranchesHaveOneLength
branches_have_one_length = record {
  if_one = if_one;
  case_one = case_one;
  if_kept = λ objects w scope place all last n fits fine.
      (statements_make_equations.if_one objects w scope place all last n (if_one w scope place all last n fine.faults) fits).right fine.room;
  case_kept = λ objects w scope place x all n fits asks counts some fine.
      (choices_are_right.simultaneous objects w scope place x all n fits asks counts some (case_one w scope place x all n fine.faults)).right fine;
}
