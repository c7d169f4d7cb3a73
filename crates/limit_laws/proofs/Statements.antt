-- How many branches the choices of a statement have.
use Rattle.std.proofs.Common.{◌≡◌, ◌≤◌, ◌<◌, ℕ, suc, Bool, true, false, List, [], ◌∷◌, length, Option, refl, ap, arith}
use Rattle.ams_tree.specs.declared.expression.Name.{Name}
use Rattle.ams_tree.specs.declared.concurrent.ConcurrentStatement.{ConcurrentStatement}
use Rattle.ams_tree.specs.declared.concurrent.ConcurrentStatement.TheVariants as conc
use Rattle.ams_tree.specs.declared.concurrent.SimultaneousAlternative.{SimultaneousAlternative}
use Rattle.ams_tree.specs.declared.concurrent.SimultaneousBranch.{SimultaneousBranch}
use Rattle.flat_design.specs.declared.objects.CaseArm.{CaseArm}
use Rattle.flat_design.specs.declared.objects.Equation.TheVariants as equation
use Rattle.flat_design.specs.declared.objects.IfArm.{IfArm}
use Rattle.flat_design.specs.declared.objects.Pair.{Pair}
use Rattle.flat_design.specs.declared.objects.Process.{Process}
use Rattle.flat_design.specs.declared.objects.Selection.TheVariants as selection
use Rattle.name_scope.specs.declared.thing.Kind.{Kind}
use Rattle.name_scope.specs.declared.scope.Scope.{Scope}
use Rattle.elab_meaning.specs.declared.fault.Notes.{Notes}
use Rattle.elab_meaning.specs.declared.part.Part.{Part}
use Rattle.elab_meaning.specs.declared.part.Part.TheVariants.{Kept, Wrong, Hidden}
use Rattle.elab_meaning.specs.declared.typed.Typed.{Typed}
use Rattle.elab_meaning.specs.Parts.{where_true, judged, both}
use Rattle.elab_meaning.specs.Expressions.{static_in}
use Rattle.unit_meaning.specs.declared.draft.Made as draft
use Rattle.unit_meaning.specs.declared.draft.Made.TheVariants as made
use Rattle.unit_meaning.specs.declared.draft.Seen.{Seen}
use Rattle.unit_meaning.specs.Cases.{nothing_seen, choices, covers}
use Rattle.unit_meaning.specs.Concurrent.{process_of, equation_of, concurrent}
use Rattle.unit_meaning.specs.Sequential.{kind_known}
use Rattle.unit_meaning.specs.Settings.{Setting, equating, choosing, typed, ahead, listed, sealed}
use Rattle.unit_meaning.specs.Simultaneous.{pair, pairs, single, if_arm, last_arm, first_length, if_lengths, chosen_if, case_arm_of, case_arms, case_lengths, chosen_case}
use Rattle.design_rules.specs.Branches.{HasFewBranches}
use Rattle.short_laws.specs.Short.{BranchesAreFew}

-- a list that is kept is as long as what it is read from
abbrev IsLong : {A : Type 0} → ℕ → Part (List A) → Type 0
IsLong k (Kept all) = length all ≡ k
IsLong k p = Unit {0}

one_longer : (A : Type 0) (k : ℕ) (p : Part A) (q : Part (List A)) → IsLong k q → IsLong (suc k) (both ahead p q)
one_longer A k (Kept a) (Kept all) h = ap suc h
one_longer A k (Kept a) Wrong h = tt
one_longer A k (Kept a) Hidden h = tt
one_longer A k Wrong (Kept all) h = tt
one_longer A k Wrong Wrong h = tt
one_longer A k Wrong Hidden h = tt
one_longer A k Hidden q h = tt

listed_long : (A B : Type 0) (rule : B → Notes → Notes × Part A) (all : List B) (n : Notes) → IsLong (length all) (listed rule all n).1
listed_long A B rule [] n = refl
listed_long A B rule (x ∷ more) n =
    let first = rule x n in
    one_longer A (length more) first.1 (listed rule more first.0).1 (listed_long A B rule more first.0)

abbrev pub MadeFew : draft.Made → Type 0
MadeFew (made.Equation q) = HasFewBranches q
MadeFew m = Unit {0}

no_equation : (p : Part Process) → MadeFew (process_of p)
no_equation (Kept p) = tt
no_equation Wrong = tt
no_equation Hidden = tt

single_few : (p : Part Pair) → MadeFew (equation_of (judged single p))
single_few (Kept p) = tt
single_few Wrong = tt
single_few Hidden = tt

short_enough : (k n : ℕ) → n ≤ 1048576 → k ≡ n → suc k < 4294967296
short_enough k n h e = omega arith

if_few : (size k : ℕ) (a : Part (List IfArm)) (b : Part (List Pair)) → k ≤ 1048576 → IsLong k a → MadeFew (equation_of (sealed (both (chosen_if size) a b)))
if_few size k (Kept arms) (Kept last) h e = short_enough (length arms) k h e
if_few size k (Kept arms) Wrong h e = tt
if_few size k (Kept arms) Hidden h e = tt
if_few size k Wrong (Kept last) h e = tt
if_few size k Wrong Wrong h e = tt
if_few size k Wrong Hidden h e = tt
if_few size k Hidden b h e = tt

module _ (w : Setting) (scope : Scope) where
  arms_long : (k : Option Kind) (seen : Seen) (all : List SimultaneousAlternative) (n : Notes) → IsLong (length all) (case_arms w scope k seen all n).1.1
  arms_long k seen [] n = refl
  arms_long k seen (a ∷ more) n =
      let c = choices w scope (static_in equating) k seen a.choices n in
      let all = pairs w scope a.equations c.0 in
      one_longer CaseArm (length more) (both (case_arm_of seen c.1.0) c.1.1 all.1) (case_arms w scope k c.1.0 more all.0).1.1 (arms_long k c.1.0 more all.0)

  long_enough : (k n : ℕ) → n ≤ 1048576 → k ≡ n → k < 4294967296
  long_enough k n h e = omega arith

  where_few : (b : Bool) (size k : ℕ) (x : Typed) (arms : List CaseArm) → k ≤ 1048576 → length arms ≡ k
      → MadeFew (equation_of (sealed (where_true b (equation.Choice (record { selection = selection.Case x.expr arms; size = size })))))
  where_few true size k x arms h e = long_enough (length arms) k h e
  where_few false size k x arms h e = tt

  case_few : (seen : Seen) (size k : ℕ) (a : Part Typed) (b : Part (List CaseArm)) → k ≤ 1048576 → IsLong k b → MadeFew (equation_of (sealed (both (chosen_case w seen size) a b)))
  case_few seen size k (Kept x) (Kept arms) h e = where_few (covers w.enumerations x.kind seen) size k x arms h e
  case_few seen size k (Kept x) Wrong h e = tt
  case_few seen size k (Kept x) Hidden h e = tt
  case_few seen size k Wrong (Kept arms) h e = tt
  case_few seen size k Wrong Wrong h e = tt
  case_few seen size k Wrong Hidden h e = tt
  case_few seen size k Hidden b h e = tt

  pub statement_few : (label : Option Name) (x : ConcurrentStatement) (n : Notes) → BranchesAreFew x → MadeFew (concurrent w scope label x n).1
  statement_few label (conc.Process p) n h = no_equation _
  statement_few label (conc.Assign x d all last when) n h = no_equation _
  statement_few label (conc.Assert a) n h = no_equation _
  statement_few label (conc.Break p all names when) n h = no_equation _
  statement_few label (conc.Equation q) n h = single_few (pair w scope q n).1
  statement_few label (conc.If p all last) n h =
      let arms = listed (if_arm w scope) all n in
      if_few (first_length (if_lengths all last)) (length all) arms.1 (last_arm w scope last arms.0).1 h (listed_long IfArm SimultaneousBranch (if_arm w scope) all n)
  statement_few label (conc.Case p x all) n h =
      let e = typed w scope choosing x n in
      let arms = case_arms w scope (kind_known e.1) nothing_seen all e.0 in
      case_few arms.1.0 (first_length (case_lengths all)) (length all) e.1 arms.1.1 h (arms_long (kind_known e.1) nothing_seen all e.0)
  statement_few label (conc.Instance i) n h = tt
