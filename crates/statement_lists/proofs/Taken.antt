-- Branches, one after the other.
use Rattle.std.proofs.Common.{◌≡◌, ℕ, ◌+◌, ◌<◌, ◌≤◌, Bool, true, false, List, [], ◌∷◌, length, drop, get_or, refl, ap, ◌∙◌, arith}
use Rattle.std.specs.Prelude.{Some, Result, Ok, Err, if◌then◌else◌}
use Rattle.std.proofs.lemmas.List.{drop_all}
use Rattle.fix_core.specs.Passes.{◌>>=◌}
use Rattle.fix_core.specs.Laws.{at_place}
use Rattle.ams_value.specs.declared.val.Val.{Val}
use Rattle.ams_value.specs.Values.{is_true}
use Rattle.flat_expr.specs.declared.statement.Branch.{Branch, out-Branch}
use Rattle.flat_expr.specs.declared.statement.Statement.{Statement}
use Rattle.step_data.specs.declared.outcome.Refusal.{Refusal}
use Rattle.cycle_meaning.specs.Task.{branch_body}
use Rattle.cycle_meaning.specs.World.{Context, Local, evaluated, holds}
use Rattle.cycle_meaning.specs.Statements.{branch_taken, body_if}
use Rattle.statement_lists.specs.Branches.{one_later, branch_number, BranchesAreTaken}

-- ---- the loop

-- the number where so many branches stand before
unfoldable pub behind : ℕ → Result ℕ Refusal → Result ℕ Refusal
behind n number = number >>= (λ b. Ok (n + b))

-- nothing is passed yet
pub none_passed : (branches : List Branch) (number : List Branch → Result ℕ Refusal) → number branches ≡ behind 0 (number (drop 0 branches))
unfolding behind
none_passed branches number = by_answer (number branches)
  where
    by_answer : (n : Result ℕ Refusal) → n ≡ (n >>= (λ b. Ok (0 + b)))
    by_answer (Ok b) = ap Ok (omega arith)
    by_answer (Err r) = refl

one_further : (i : ℕ) (number : Result ℕ Refusal) → behind i (one_later number) ≡ behind (i + 1) number
unfolding behind
one_further i (Ok b) = ap Ok (omega arith)
one_further i (Err r) = refl

-- the condition of the next branch doesn't hold
pub passed : (here : Context) (l : Local) (branches : List Branch) (i : ℕ) (b : Branch) → i < length branches → b ≡ get_or branches i b → holds here l (Some (out-Branch b).condition) ≡ Ok false →
    behind i (branch_number here l (drop i branches)) ≡ behind (i + 1) (branch_number here l (drop (i + 1) branches))
unfolding branch_number
passed here l branches i b inside is found = rw (at_place branches i b inside is, found) (one_further i (branch_number here l (drop (i + 1) branches)))

-- it holds
pub taken : (here : Context) (l : Local) (branches : List Branch) (i : ℕ) (b : Branch) → i < length branches → b ≡ get_or branches i b → holds here l (Some (out-Branch b).condition) ≡ Ok true →
    behind i (branch_number here l (drop i branches)) ≡ Ok i
unfolding branch_number behind
taken here l branches i b inside is found = rw (at_place branches i b inside is, found) (ap Ok (omega arith))

-- it has a fault
pub fails : (here : Context) (l : Local) (branches : List Branch) (i : ℕ) (b : Branch) (r : Refusal) → i < length branches → b ≡ get_or branches i b → holds here l (Some (out-Branch b).condition) ≡ Err r →
    behind i (branch_number here l (drop i branches)) ≡ Err r
unfolding branch_number behind
fails here l branches i b r inside is found = rw (at_place branches i b inside is, found) refl

-- all are passed
pub all_passed : (here : Context) (l : Local) (branches : List Branch) (i : ℕ) → i ≤ length branches → length branches ≤ i → behind i (branch_number here l (drop i branches)) ≡ Ok (length branches)
unfolding branch_number behind
all_passed here l branches i within end = rw (drop_all i branches end) (ap Ok (omega arith))

-- ---- the statements

by_number : (x : Branch) (more : List Branch) (last : List Statement) (number : Result ℕ Refusal) →
    (number >>= (λ b. Ok (branch_body more last b))) ≡ (one_later number >>= (λ b. Ok (branch_body (x ∷ more) last b)))
by_number x more last (Ok b) = refl
by_number x more last (Err r) = refl

by_truth : (x : Branch) (more : List Branch) (last : List Statement) (t : Bool) (others : Result (List Statement) Refusal) (number : Result ℕ Refusal) →
    others ≡ (number >>= (λ b. Ok (branch_body more last b))) →
    body_if t (out-Branch x).body others ≡ ((if t then Ok 0 else one_later number) >>= (λ b. Ok (branch_body (x ∷ more) last b)))
by_truth x more last true others number same = refl
by_truth x more last false others number same = same ∙ by_number x more last number

by_value : (x : Branch) (more : List Branch) (last : List Statement) (v : Result Val Refusal) (others : Result (List Statement) Refusal) (number : Result ℕ Refusal) →
    others ≡ (number >>= (λ b. Ok (branch_body more last b))) →
    (v >>= (λ a. body_if (is_true a) (out-Branch x).body others))
    ≡ ((v >>= (λ a. Ok (is_true a))) >>= (λ t. if t then Ok 0 else one_later number) >>= (λ b. Ok (branch_body (x ∷ more) last b)))
by_value x more last (Ok a) others number same = by_truth x more last (is_true a) others number same
by_value x more last (Err r) others number same = refl

pub branches : BranchesAreTaken
unfolding branch_taken branch_number
branches here l [] last = refl
branches here l (x ∷ more) last =
    by_value x more last (evaluated here l (out-Branch x).condition) (branch_taken here l more last) (branch_number here l more) (branches here l more last)
