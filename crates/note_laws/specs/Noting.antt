-- Dots and thresholds that are noted while a text is read.
use Rattle.std.specs.Prelude.{◌≡◌, ◌≢◌, ◌≤◌, ◌<◌, ◌⊎◌, ℕ, false, List, length, IfSome}
use Rattle.std.specs.List.{All, AllPairs, Contains}
use Rattle.ams_tree.specs.declared.expression.Expr.{Expr}
use Rattle.flat_design.specs.Limits.{unknown_limit, threshold_limit}
use Rattle.flat_design.specs.Lists.{same_threshold}
use Rattle.flat_design.specs.declared.objects.Objects.{Objects}
use Rattle.flat_design.specs.declared.objects.Threshold.{Threshold}
use Rattle.name_scope.specs.declared.thing.Thing.{Thing}
use Rattle.name_scope.specs.declared.thing.Thing.TheVariants as thing
use Rattle.name_scope.specs.declared.scope.Scope.{Scope}
use Rattle.name_scope.specs.Scopes.{lookup}
use Rattle.elab_meaning.specs.declared.fault.Notes.{Notes}
use Rattle.elab_meaning.specs.declared.typed.Context.{Context}
use Rattle.elab_meaning.specs.Expressions.{expression}
use Rattle.design_rules.specs.Types.{equation_scope}
use Rattle.design_rules.specs.Design.{IsThreshold}
use Rattle.reading_laws.specs.Growing.{Grows}
use Rattle.sound_laws.specs.Sound.{GivesValue}

-- ---- names

-- a quantity is one that there is; the value of a name, where it has one, is of its type
abbrev pub IsNotable : Objects → Thing → Type 0
IsNotable objects (thing.Quantity i c) = i < length objects.quantities
IsNotable objects t = GivesValue (equation_scope objects) t

abbrev pub NamesAreNotable : Objects → Scope → Type 0
NamesAreNotable objects scope = (name : ℕ) → IfSome (lookup scope name) (IsNotable objects)

-- ---- notes

-- what is noted is as a well-formed flat design has it: dots of quantities that there are, thresholds in range, each of them once
pub record AreNoted (objects : Objects) (n : Notes) : Type 0 where
  pub dots : All (λ q. q < length objects.quantities) n.dots
  pub dots_once : AllPairs (λ a b. a ≢ b) n.dots
  pub thresholds : All (IsThreshold objects) n.thresholds
  pub thresholds_once : AllPairs (λ a b. same_threshold a b ≡ false) n.thresholds

-- of two readings of one text, from the notes `n` to `on` and from `m` to `to`: what is right stays so, and what is new behind the
-- first stands behind the second too, unless there are more dots or thresholds than a design may have
pub record NotesAlike (objects : Objects) (n m on to : Notes) : Type 0 where
  pub grows : Grows n on
  pub also_grows : Grows m to
  pub kept : AreNoted objects n → AreNoted objects on
  pub dots : length to.dots ≤ unknown_limit → (q : ℕ) → Contains on.dots q → Contains n.dots q ⊎ Contains to.dots q
  pub thresholds : length to.thresholds ≤ threshold_limit → (h : Threshold) → Contains on.thresholds h → Contains n.thresholds h ⊎ Contains to.thresholds h

-- ---- expressions

abbrev pub ReadingsNoteAlike : Type 0
ReadingsNoteAlike =
    (objects : Objects) (texts : List (List ℕ)) (scope : Scope) (x : Expr) (c : Context) (n m : Notes)
    → NamesAreNotable objects scope → NotesAlike objects n m (expression texts scope x c n).0 (expression texts scope x c m).0
