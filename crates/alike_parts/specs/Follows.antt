-- A statement that is read twice: where the first reading breaks no rule, the second breaks none but such as an instance answers.
use Rattle.std.specs.Prelude.{◌≡◌, ℕ, Bool, IsTrue, List, Option}
use Rattle.ams_token.specs.declared.token.Place.{Place}
use Rattle.ams_tree.specs.declared.expression.Expr.{Expr}
use Rattle.ams_tree.specs.declared.expression.Name.{Name}
use Rattle.ams_tree.specs.declared.concurrent.ConditionalWaveform.{ConditionalWaveform}
use Rattle.ams_tree.specs.declared.concurrent.Equation.{Equation}
use Rattle.ams_tree.specs.declared.concurrent.SimultaneousBranch.{SimultaneousBranch}
use Rattle.ams_tree.specs.declared.concurrent.SimultaneousAlternative.{SimultaneousAlternative}
use Rattle.ams_tree.specs.declared.sequential.Assertion.{Assertion}
use Rattle.ams_tree.specs.declared.sequential.BreakElement.{BreakElement}
use Rattle.ams_tree.specs.declared.sequential.DelayMechanism.{DelayMechanism}
use Rattle.ams_tree.specs.declared.sequential.WaveformElement.{WaveformElement}
use Rattle.name_scope.specs.declared.scope.Scope.{Scope}
use Rattle.elab_meaning.specs.declared.fault.Notes.{Notes}
use Rattle.unit_meaning.specs.Settings.{Setting}
use Rattle.unit_meaning.specs.Simultaneous.{simple, if_statement, case_statement}
use Rattle.unit_meaning.specs.Processes.{concurrent_assignment, concurrent_assertion, concurrent_break}
use Rattle.alike_laws.specs.Alike.{HasNoFaults, OnlyTold, AlikeScopes, ExpressionsFollow, StaticsFollow}

-- of two readings of one text, from the notes `n` to `on` and from `m` to `to`: the first only adds faults, and where `G` holds and it
-- leaves none at all, the second leaves none but such as an instance answers, if there was none before
pub record FollowsIf (G : Type 0) (n m on to : Notes) : Type 0 where
  pub back : HasNoFaults on → HasNoFaults n
  pub told : G → HasNoFaults on → OnlyTold m → OnlyTold to

-- two scopes that are alike where `G` holds, and settings of the same texts, in which expressions follow
pub record BothRead (G : Type 0) (natures : List ℕ) (checked entered : Setting) (early late : Scope) : Type 0 where
  pub reads : ExpressionsFollow
  pub statics : StaticsFollow
  pub texts : checked.texts ≡ entered.texts
  pub alike : G → AlikeScopes natures early late

abbrev pub ReadsFollow : Type 0 → (Notes → Notes) → (Notes → Notes) → Type 0
ReadsFollow G first second = (n m : Notes) → FollowsIf G n m (first n) (second m)

pub record StatementsFollow (G : Type 0) (v w : Setting) (c i : Scope) : Type 0 where
  pub equation : (q : Equation) → ReadsFollow G (λ n. (simple v c q n).0) (λ n. (simple w i q n).0)
  pub choice : (place : Place) (all : List SimultaneousBranch) (last : Option (List Equation))
      → ReadsFollow G (λ n. (if_statement v c place all last n).0) (λ n. (if_statement w i place all last n).0)
  pub case_of : (place : Place) (x : Expr) (all : List SimultaneousAlternative) → ReadsFollow G (λ n. (case_statement v c place x all n).0) (λ n. (case_statement w i place x all n).0)
  pub assignment : (x : Name) (delay : Option DelayMechanism) (all : List ConditionalWaveform) (last : List WaveformElement) (when : Option Expr)
      → ReadsFollow G (λ n. (concurrent_assignment v c x delay all last when n).0) (λ n. (concurrent_assignment w i x delay all last when n).0)
  pub assertion : (a : Assertion) → ReadsFollow G (λ n. (concurrent_assertion v c a n).0) (λ n. (concurrent_assertion w i a n).0)
  pub break_of : (place : Place) (elements : List BreakElement) (names : List Expr) (when : Option Expr)
      → ReadsFollow G (λ n. (concurrent_break v c place elements names when n).0) (λ n. (concurrent_break w i place elements names when n).0)

abbrev pub EachFollows : Type 0
EachFollows = (G : Bool) (natures : List ℕ) (v w : Setting) (c i : Scope) → BothRead (IsTrue G) natures v w c i → StatementsFollow (IsTrue G) v w c i
