-- The statements of both kinds.
use Rattle.std.proofs.Common.{◌≡◌, refl, sym, ◌∙◌, ap, subst, ℕ, ◌+◌, false, List, Option, Result, Ok, Err}
use Rattle.flat_expr.specs.declared.expr.FlatExpr.{FlatExpr}
use Rattle.flat_expr.specs.declared.statement.BreakElement.{BreakElement}
use Rattle.flat_expr.specs.declared.statement.Severity.{Severity}
use Rattle.flat_expr.specs.declared.statement.Statement.{Statement, out-Statement}
use Rattle.flat_expr.specs.declared.statement.Statement.TheVariants as s
use Rattle.flat_expr.specs.declared.statement.Statement.TheVariants.{rolls-Assert, rolls-Break}
use Rattle.flat_expr.specs.declared.statement.Statement.TheViews.{out-roll-Statement}
use Rattle.flat_expr.specs.declared.statement.Statement.TheOpen.{Statement-F}
use Rattle.cycle_meaning.specs.Task.{Layer}
use Rattle.cycle_meaning.specs.World.{Context, Local}
use Rattle.process_laws.specs.Resumed.{Surroundings}
use Rattle.statement_lists.specs.declared.fault.ListFault.{ListFault}
use Rattle.statement_lists.specs.declared.fault.ListFault.TheVariants as fault
use Rattle.process_place.specs.ProcessPlace.{at}
use Rattle.process_place.specs.Moves.{goes_to, moved}
use Rattle.process_stack.specs.Stacks.{Stacked, round_of, place_by, place_of}
use Rattle.process_control.specs.declared.control.Wait.{Wait}
use Rattle.process_control.specs.Performing.{Performs, IsBegun}
use Rattle.process_effects.specs.Effects.{Leads}
use Rattle.proc_exec.specs.Performing.{is_leading, changed, IsPassed}

-- an assertion and a break, as their function finds them
pub out_assert : (e : FlatExpr) (text : List ℕ) (severity : Severity) → out-Statement (s.Assert e text severity) ≡ Statement-F.Assert e text severity
out_assert e text severity = ap out-Statement (sym (rolls-Assert e text severity)) ∙ out-roll-Statement (Statement-F.Assert e text severity)

pub out_break : (elements : List BreakElement) (condition : Option FlatExpr) → out-Statement (s.Break elements condition) ≡ Statement-F.Break elements condition
out_break elements condition = ap out-Statement (sym (rolls-Break elements condition)) ∙ out-roll-Statement (Statement-F.Break elements condition)

-- a statement that doesn't lead the process on gives what it changes
pub changed_here : (here : Context) (l : Local) (top : List Statement) (c : Surroundings) (k : ℕ) (layer : Layer) → is_leading layer ≡ false → moved here l top c k layer ≡ changed here l layer (at c (k + 1))
changed_here here l top c k (Statement-F.SignalAssignment _ _ _ _) other = refl
changed_here here l top c k (Statement-F.VariableAssignment _ _ _) other = refl
changed_here here l top c k (Statement-F.Assert _ _ _) other = refl
changed_here here l top c k (Statement-F.Report _ _) other = refl
changed_here here l top c k (Statement-F.Break _ _) other = refl
changed_here here l top c k Statement-F.Null other = refl
changed_here here l top c k (Statement-F.If _ _) other = absurd cc
changed_here here l top c k (Statement-F.Case _ _) other = absurd cc
changed_here here l top c k (Statement-F.Loop _ _) other = absurd cc
changed_here here l top c k (Statement-F.For _ _ _ _ _) other = absurd cc
changed_here here l top c k (Statement-F.Exit _) other = absurd cc
changed_here here l top c k (Statement-F.Next _) other = absurd cc
changed_here here l top c k (Statement-F.Wait _ _ _ _) other = absurd cc

-- the place behind a statement
behind_it : (top : List Statement) (s now : Stacked) (layer : Layer) → IsBegun top s layer → now ≡ record s { next = s.next + 1 } → at (round_of top s.frames) (s.next + 1) ≡ place_of top now
behind_it top s now layer begun is = ap (λ o. place_by o (round_of top s.frames) (s.next + 1)) (sym begun.first) ∙ ap (place_of top) (sym is)

-- the process goes behind a statement that was performed
pub passed : (here : Context) (before after : Local) (top : List Statement) (s now : Stacked) (layer : Layer) (outcome : Result (Unit {0}) ListFault) (r : Result (Option Wait) ListFault)
    → IsBegun top s layer → is_leading layer ≡ false → Leads (changed here before layer) before after outcome → IsPassed outcome s now r
    → Performs (moved here before top (round_of top s.frames) s.next layer) top before after now r
passed here before after top s now layer (Ok u) r begun other leads done =
    subst (Performs (moved here before top (round_of top s.frames) s.next layer) top before after now) (sym done.0)
    (changed_here here before top (round_of top s.frames) s.next layer other
    ∙ (leads (at (round_of top s.frames) (s.next + 1)) ∙ ap (λ p. goes_to p after) (behind_it top s now layer begun done.1)))
passed here before after top s now layer (Err (fault.Refused x)) r begun other leads done =
    subst (Performs (moved here before top (round_of top s.frames) s.next layer) top before after now) (sym done.0)
    (changed_here here before top (round_of top s.frames) s.next layer other ∙ leads (at (round_of top s.frames) (s.next + 1)))
passed here before after top s now layer (Err fault.Memory) r begun other leads done =
    subst (Performs (moved here before top (round_of top s.frames) s.next layer) top before after now) (sym done.0) leads
