-- Assignments, part by part.
use Rattle.std.proofs.Common.{◌≡◌, ℕ, ℤ, List, ◌∷◌, refl}
use Rattle.std.specs.Prelude.{not, Some, Result, Ok, Err}
use Rattle.std.specs.List.{slice_set}
use Rattle.message_codes.specs.Codes.{range}
use Rattle.fix_core.specs.Passes.{◌>>=◌}
use Rattle.ams_value.specs.declared.val.Val.{Val}
use Rattle.ams_value.specs.Values.{ticks_of}
use Rattle.flat_expr.specs.Subtype.{lies_in}
use Rattle.step_data.specs.declared.trans.Trans.{Trans}
use Rattle.step_data.specs.declared.outcome.Refusal.{Refusal}
use Rattle.cycle_meaning.specs.World.{refusal, refused_where, evaluated, time_after}
use Rattle.cycle_meaning.specs.Statements.{transactions, delay_of, bad_delay}
use Rattle.statement_values.specs.declared.element.Timed.{Timed}
use Rattle.statement_values.specs.Parts.{PartsMakeAssignments}

-- a value that is tested and then used
after_test : {A B : Type 0} (v : Result A Refusal) (test : A → Result A Refusal) (use_it : A → B) →
    (v >>= (λ x. test x >>= (λ tested. Ok (use_it tested)))) ≡ ((v >>= (λ x. test x)) >>= (λ tested. Ok (use_it tested)))
after_test (Ok a) test use_it = refl
after_test (Err r) test use_it = refl

timed : Val → ℤ → ℕ → Timed
timed v d t = record { transaction = record { at = t; value = v }; delay = d }

-- the tests of an element, one by one
after_tests : (tested : Result Val Refusal) (delay : Result ℤ Refusal) (at : Result ℕ Refusal) (later : ℤ → Result (List Trans) Refusal) →
    (tested >>= (λ v. delay >>= (λ d. at >>= (λ t. later d >>= (λ more. Ok (record { at = t; value = v } ∷ more))))))
    ≡ ((tested >>= (λ v. delay >>= (λ d. at >>= (λ t. Ok (timed v d t))))) >>= (λ made. later made.delay >>= (λ more. Ok (made.transaction ∷ more))))
unfolding timed
after_tests (Ok v) (Ok d) (Ok t) later = refl
after_tests (Ok v) (Ok d) (Err r) later = refl
after_tests (Ok v) (Err r) at later = refl
after_tests (Err r) delay at later = refl

-- the values of an element, and then its tests
after_values : (value delay : Result Val Refusal) (tested : Val → Result Val Refusal) (sound : Val → Result ℤ Refusal) (at : Val → Result ℕ Refusal)
    (later : ℤ → Result (List Trans) Refusal) →
    (value >>= (λ v. delay >>= (λ d. tested v >>= (λ x. sound d >>= (λ s. at d >>= (λ t. later s >>= (λ more. Ok (record { at = t; value = x } ∷ more))))))))
    ≡ ((value >>= (λ v. delay >>= (λ d. tested v >>= (λ x. sound d >>= (λ s. at d >>= (λ t. Ok (timed x s t))))))) >>= (λ made. later made.delay >>= (λ more. Ok (made.transaction ∷ more))))
unfolding timed
after_values (Ok v) (Ok d) tested sound at later = after_tests (tested v) (sound d) (at d) later
after_values (Ok v) (Err r) tested sound at later = refl
after_values (Err r) delay tested sound at later = refl

pub laws : PartsMakeAssignments
unfolding transactions timed
laws = record {
  variable = λ here l i constraint e.
      after_test (evaluated here l e) (λ v. refused_where (not (lies_in constraint v)) (refusal here range) v) (λ v. record l { variables = slice_set l.variables i v });
  waveform = λ here l fits limit before e more.
      after_values (evaluated here l e.value) (delay_of here l e.delay) (λ v. refused_where (not (fits v)) (refusal here range) v)
      (λ d. refused_where (bad_delay limit before (ticks_of d)) (refusal here range) (ticks_of d)) (time_after here)
      (λ d. transactions here l fits limit (Some d) more);
}
