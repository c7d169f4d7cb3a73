-- Selectors of breaks have their dots in equations of the design, where each expression is found.
use Rattle.std.proofs.Common.{◌≡◌, ℕ, List}
use Rattle.std.specs.List.{All}
use Rattle.ams_tree.specs.declared.concurrent.Concurrent.{Concurrent}
use Rattle.ams_tree.specs.declared.concurrent.ConcurrentStatement.{ConcurrentStatement}
use Rattle.flat_design.specs.declared.objects.Objects.{Objects}
use Rattle.flat_design.specs.declared.objects.Pair.{Pair}
use Rattle.name_scope.specs.declared.scope.Scope.{Scope}
use Rattle.unit_meaning.specs.declared.draft.Made.{Made}
use Rattle.unit_meaning.specs.declared.draft.Made.TheVariants as made
use Rattle.unit_meaning.specs.Settings.{Setting}
use Rattle.unit_meaning.specs.Simultaneous.{selectors_of}
use Rattle.allowed_laws.specs.Simple.{SelectorsFit}
use Rattle.site_invariant_laws.specs.Sites.{IsMadeIn}
use Rattle.selector_laws.specs.Selectors.{HasDot, in_pairs, DotsStand, KeepsReadings}
use Rattle.selector_laws.proofs.Statements.{selectors_have_dots}
use Rattle.selected_laws.specs.Selected.{HasItsDot, DotsAreMade, StatementsMakeDots}
use Rattle.selected_laws.proofs.Selected.{selectors_are_made}

its_dot : (all : List Pair) (dots : List ℕ) (q : ℕ) → HasDot (in_pairs all) dots q → HasItsDot all dots q
its_dot all dots q h = (h.number, h.number_is, h.stands)

same_dots : (scope : Scope) (dots : List ℕ) (s : ConcurrentStatement) (m : Made) → DotsStand scope dots s m → DotsAreMade scope dots s m
same_dots scope dots s (made.Equation q) h = λ x i c named is. its_dot _ dots i (h x i c named is)
same_dots scope dots s (made.Process p) h = h
same_dots scope dots s made.Nothing h = h

dots_made : (w : Setting) (scope : Scope) → KeepsReadings w.texts scope → StatementsMakeDots w scope
dots_made w scope keeps label s n fine short = same_dots scope _ s _ (selectors_have_dots w scope label s n keeps fine short)

pub selectors_follow : (final : Objects) (w : Setting) (scope : Scope) (all : List Concurrent)
    → KeepsReadings w.texts scope → w.selectors ≡ selectors_of all → All (IsMadeIn final w scope) all → SelectorsFit final w scope
selectors_follow final w scope all keeps same made = selectors_are_made final w scope all (dots_made w scope keeps) same made
