-- The parts of a round, and one round more.
use Rattle.std.proofs.Common.{◌≡◌, ℕ, suc, ◌+◌, ◌-◌, ◌<◌, ◌≤◌, Bool, true, false, ℤ, List, Result, Ok, Err, refl, sym, ap, ◌∙◌, arith}
use Rattle.message_codes.specs.Codes.{no_convergence}
use Rattle.fix_core.specs.declared.NumFault.{NumFault}
use Rattle.fix_core.specs.Passes.{and_then, each, answer}
use Rattle.lin_solve.specs.declared.LinFault.{LinFault}
use Rattle.lin_solve.specs.declared.LinFault.TheVariants.{Singular, Overflow}
use Rattle.lin_solve.specs.Elimination.{solution_of}
use Rattle.step_data.specs.declared.outcome.Cause.{Cause}
use Rattle.design_meaning.specs.declared.fault.EvalFault.{EvalFault}
use Rattle.design_meaning.specs.Newton.{Problem, linear_row, residuals_of, corrected, within, judged, cause, round, newton, of_evaluation, of_solution, of_correction}
use Rattle.newton_rounds.specs.Rounds.{is_solution}

-- ---- what a call answered, as a cause

pub evaluation_answered : {A : Type 0} (r : Result (Unit {0}) EvalFault) (m : Result A EvalFault) (a : A) → m ≡ answer r a → of_evaluation m ≡ answer (of_evaluation r) a
evaluation_answered (Ok u) m a e = ap of_evaluation e
evaluation_answered (Err f) m a e = ap of_evaluation e

pub solution_answered : {A : Type 0} (r : Result (Unit {0}) LinFault) (m : Result A LinFault) (a : A) → m ≡ answer r a → of_solution m ≡ answer (of_solution r) a
solution_answered (Ok u) m a e = ap of_solution e
solution_answered (Err (Singular column)) m a e = ap of_solution e
solution_answered (Err Overflow) m a e = ap of_solution e

pub correction_answered : {A : Type 0} (r : Result (Unit {0}) NumFault) (m : Result A NumFault) (a : A) → m ≡ answer r a → of_correction m ≡ answer (of_correction r) a
correction_answered (Ok u) m a e = ap of_correction e
correction_answered (Err f) m a e = ap of_correction e

-- where an answer is known, the whole is
refused : {A : Type 0} (t : Result (Unit {0}) Cause) (m : Result A Cause) (a : A) (c : Cause) → m ≡ answer t a → t ≡ Err c → m ≡ Err c
refused t m a c e h = e ∙ ap (λ r. answer r a) h

given : {A : Type 0} (t : Result (Unit {0}) Cause) (m : Result A Cause) (a : A) (u : Unit {0}) → m ≡ answer t a → t ≡ Ok u → m ≡ Ok a
given t m a u e h = e ∙ ap (λ r. answer r a) h

-- ---- a round

abbrev pub system_at : Problem → List ℤ → Result (List (List ℤ)) EvalFault
system_at p x = each (linear_row p.unknowns (p.reads x)) p.rows

pub round_not_filled : (p : Problem) (x : List ℤ) (r : Result (Unit {0}) EvalFault) (rows : List (List ℤ)) (t : Result (Unit {0}) Cause) (c : Cause)
    → system_at p x ≡ answer r rows → t ≡ of_evaluation r → t ≡ Err c → round p x ≡ Err c
unfolding round
round_not_filled p x r rows t c filled is h =
    let none : of_evaluation (system_at p x) ≡ Err c = refused (of_evaluation r) _ rows c (evaluation_answered r _ rows filled) (sym is ∙ h) in
    rw none refl

pub round_not_solved : (p : Problem) (x : List ℤ) (r : Result (Unit {0}) EvalFault) (rows : List (List ℤ)) (t : Result (Unit {0}) Cause) (u : Unit {0}) (s : Result (Unit {0}) LinFault) (ds : List ℤ) (v : Result (Unit {0}) Cause) (c : Cause)
    → system_at p x ≡ answer r rows → t ≡ of_evaluation r → t ≡ Ok u → solution_of rows ≡ answer s ds → v ≡ of_solution s → v ≡ Err c → round p x ≡ Err c
unfolding round
round_not_solved p x r rows t u s ds v c filled is h solved by g =
    let some : of_evaluation (system_at p x) ≡ Ok rows = given (of_evaluation r) _ rows u (evaluation_answered r _ rows filled) (sym is ∙ h) in
    let none : of_solution (solution_of rows) ≡ Err c = refused (of_solution s) _ ds c (solution_answered s _ ds solved) (sym by ∙ g) in
    rw (some, none) refl

pub round_is : (p : Problem) (x : List ℤ) (r : Result (Unit {0}) EvalFault) (rows : List (List ℤ)) (t : Result (Unit {0}) Cause) (u : Unit {0}) (s : Result (Unit {0}) LinFault) (ds : List ℤ) (v : Result (Unit {0}) Cause) (w : Unit {0}) (q : Result (Unit {0}) NumFault) (y : List ℤ)
    → system_at p x ≡ answer r rows → t ≡ of_evaluation r → t ≡ Ok u → solution_of rows ≡ answer s ds → v ≡ of_solution s → v ≡ Ok w → corrected x ds ≡ answer q y → round p x ≡ answer (of_correction q) y
unfolding round
round_is p x r rows t u s ds v w q y filled is h solved by g told =
    let some : of_evaluation (system_at p x) ≡ Ok rows = given (of_evaluation r) _ rows u (evaluation_answered r _ rows filled) (sym is ∙ h) in
    let found : of_solution (solution_of rows) ≡ Ok ds = given (of_solution s) _ ds w (solution_answered s _ ds solved) (sym by ∙ g) in
    rw (some, found) (correction_answered q (corrected x ds) y told)

-- the unknowns that were found
pub solved_rows : (rows : List (List ℤ)) (s : Result (Unit {0}) LinFault) (ds : List ℤ) (v : Result (Unit {0}) Cause) (w : Unit {0}) → solution_of rows ≡ answer s ds → v ≡ of_solution s → v ≡ Ok w → solution_of rows ≡ Ok ds
solved_rows rows (Ok u) ds v w solved by g = solved
solved_rows rows (Err (Singular column)) ds v w solved by g = absurd (cc)
solved_rows rows (Err Overflow) ds v w solved by g = absurd (cc)

-- ---- one round more

judged_by : (w : List ℤ → Bool) (next : List ℤ → Result (List ℤ) Cause) (y : List ℤ) (m : Result (List ℤ) Cause) (b : Bool)
    → and_then (λ rs. Ok (w rs)) m ≡ Ok b → and_then (λ rs. judged (w rs) next y) m ≡ judged b next y
judged_by w next y (Ok rs) b e = let same : w rs ≡ b = cc in ap (λ c. judged c next y) same
judged_by w next y (Err c) b e = absurd (cc)

not_judged : (w : List ℤ → Bool) (next : List ℤ → Result (List ℤ) Cause) (y : List ℤ) (m : Result (List ℤ) Cause) (c : Cause)
    → and_then (λ rs. Ok (w rs)) m ≡ Err c → and_then (λ rs. judged (w rs) next y) m ≡ Err c
not_judged w next y (Ok rs) c e = absurd (cc)
not_judged w next y (Err d) c e = let same : d ≡ c = cc in ap Err same

judging : ℕ → Problem → List ℤ → Result (List ℤ) Cause
judging k p y = and_then (λ residuals. judged (within p.tol residuals) (newton k p) y) (of_evaluation (residuals_of p.rows (p.reads y)))

newton_first : (n i : ℕ) (p : Problem) (x : List ℤ) → i < n → newton (n - i) p x ≡ and_then (judging (n - (i + 1)) p) (round p x)
unfolding newton judging
newton_first n i p x lt = let more : n - i ≡ suc (n - (i + 1)) = omega arith in rw more refl

judging_is : (k : ℕ) (p : Problem) (y : List ℤ) (b : Bool) → is_solution p y ≡ Ok b → judging k p y ≡ judged b (newton k p) y
unfolding judging
judging_is k p y b e = judged_by (within p.tol) (newton k p) y (of_evaluation (residuals_of p.rows (p.reads y))) b e

no_judging : (k : ℕ) (p : Problem) (y : List ℤ) (c : Cause) → is_solution p y ≡ Err c → judging k p y ≡ Err c
unfolding judging
no_judging k p y c e = not_judged (within p.tol) (newton k p) y (of_evaluation (residuals_of p.rows (p.reads y))) c e

after_round : (n i : ℕ) (p : Problem) (x y : List ℤ) → i < n → round p x ≡ Ok y → newton (n - i) p x ≡ judging (n - (i + 1)) p y
after_round n i p x y lt turned = newton_first n i p x lt ∙ ap (λ m. and_then (judging (n - (i + 1)) p) m) turned

pub newton_next : (n i : ℕ) (p : Problem) (x y : List ℤ) → i < n → round p x ≡ Ok y → is_solution p y ≡ Ok false → newton (n - i) p x ≡ newton (n - (i + 1)) p y
newton_next n i p x y lt turned bad = after_round n i p x y lt turned ∙ judging_is (n - (i + 1)) p y false bad

pub newton_done : (n i : ℕ) (p : Problem) (x y : List ℤ) → i < n → round p x ≡ Ok y → is_solution p y ≡ Ok true → newton (n - i) p x ≡ Ok y
newton_done n i p x y lt turned good = after_round n i p x y lt turned ∙ judging_is (n - (i + 1)) p y true good

pub newton_not_judged : (n i : ℕ) (p : Problem) (x y : List ℤ) (c : Cause) → i < n → round p x ≡ Ok y → is_solution p y ≡ Err c → newton (n - i) p x ≡ Err c
newton_not_judged n i p x y c lt turned none = after_round n i p x y lt turned ∙ no_judging (n - (i + 1)) p y c none

pub newton_not_turned : (n i : ℕ) (p : Problem) (x : List ℤ) (c : Cause) → i < n → round p x ≡ Err c → newton (n - i) p x ≡ Err c
newton_not_turned n i p x c lt none = newton_first n i p x lt ∙ ap (λ m. and_then (judging (n - (i + 1)) p) m) none

pub newton_ends : (n i : ℕ) (p : Problem) (x : List ℤ) → n ≤ i → newton (n - i) p x ≡ Err (cause no_convergence)
unfolding newton
newton_ends n i p x le = let none : n - i ≡ 0 = omega arith in rw none refl
