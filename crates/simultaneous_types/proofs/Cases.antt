-- A simultaneous case, put together from what its calls found.
use Rattle.std.proofs.Common.{◌≡◌, ℕ, List, Option, Result, subst}
use Rattle.std.specs.declared.alloc.AllocError.{AllocError}
use Rattle.ams_token.specs.declared.token.Place.{Place}
use Rattle.ams_tree.specs.declared.expression.Expr.{Expr}
use Rattle.ams_tree.specs.declared.concurrent.SimultaneousAlternative.{SimultaneousAlternative}
use Rattle.flat_design.specs.declared.objects.CaseArm.{CaseArm}
use Rattle.flat_design.specs.declared.objects.Equation.{Equation}
use Rattle.name_scope.specs.declared.thing.Kind.{Kind}
use Rattle.name_scope.specs.declared.scope.Scope.{Scope}
use Rattle.elab_meaning.specs.declared.fault.Notes.{Notes}
use Rattle.elab_meaning.specs.declared.part.Part.{Part}
use Rattle.elab_meaning.specs.declared.typed.Typed.{Typed}
use Rattle.elab_meaning.specs.Parts.{both}
use Rattle.unit_meaning.specs.declared.draft.Seen.{Seen}
use Rattle.unit_meaning.specs.Cases.{nothing_seen}
use Rattle.unit_meaning.specs.Sequential.{kind_known}
use Rattle.unit_meaning.specs.Settings.{Setting, choosing, typed, finished}
use Rattle.unit_meaning.specs.Simultaneous.{case_arms, case_lengths, case_statement, chosen_case, compared, first_length}
use Rattle.expr_types.specs.Known.{Finds}

module _ (w : Setting) (scope : Scope) (place : Place) (all : List SimultaneousAlternative) (r : Result (Part Equation) AllocError) (m : Notes) where
  -- once the alternatives are read
  abbrev pub Ends : List ℕ → Notes → Seen → Part Typed → Part (List CaseArm) → Type 0
  Ends lengths n seen selector arms = Finds (finished place (compared place lengths n, both (chosen_case w seen (first_length lengths)) selector arms)) r m

  -- before they are
  abbrev pub Begins : Part Typed → Notes → Type 0
  Begins selector n =
      let arms = case_arms w scope (kind_known selector) nothing_seen all n in
      Ends (case_lengths all) arms.0 arms.1.0 selector arms.1.1

  pub begins : (selector same : Part Typed) (k : Option Kind) (n after : Notes) (before seen : Seen) (arms held : Part (List CaseArm)) (counted lengths : List ℕ)
      → k ≡ kind_known selector → before ≡ nothing_seen
      → after ≡ (case_arms w scope k before all n).0 → arms ≡ (case_arms w scope k before all n).1.1 → seen ≡ (case_arms w scope k before all n).1.0
      → counted ≡ case_lengths all → lengths ≡ counted → same ≡ selector → held ≡ arms
      → Ends lengths after seen same held → Begins selector n
  begins selector same k n after before seen arms held counted lengths ek eb en ea es ec el ei eh h =
      subst (λ k. Ends (case_lengths all) (case_arms w scope k nothing_seen all n).0 (case_arms w scope k nothing_seen all n).1.0 selector (case_arms w scope k nothing_seen all n).1.1) ek
      (subst (λ b. Ends (case_lengths all) (case_arms w scope k b all n).0 (case_arms w scope k b all n).1.0 selector (case_arms w scope k b all n).1.1) eb
      (subst (λ j. Ends (case_lengths all) j (case_arms w scope k before all n).1.0 selector (case_arms w scope k before all n).1.1) en
      (subst (λ s. Ends (case_lengths all) after s selector (case_arms w scope k before all n).1.1) es
      (subst (λ a. Ends (case_lengths all) after seen selector a) ea
      (subst (λ a. Ends (case_lengths all) after seen selector a) eh
      (subst (λ s. Ends (case_lengths all) after seen s held) ei
      (subst (λ ls. Ends ls after seen same held) ec
      (subst (λ ls. Ends ls after seen same held) el h))))))))

  pub whole : (x : Expr) (n after : Notes) (selector : Part Typed)
      → after ≡ (typed w scope choosing x n).0 → selector ≡ (typed w scope choosing x n).1
      → Begins selector after → Finds (case_statement w scope place x all n) r m
  whole x n after selector en es h =
      subst (λ s. Begins s (typed w scope choosing x n).0) es (subst (λ k. Begins selector k) en h)
