-- Where a process stands in its text, step by step.
use Rattle.std.proofs.Common.{◌≡◌, refl, ap, sym, ◌∙◌, ℕ, zero, suc, ◌+◌, ℤ, List, [], ◌∷◌, ◌++◌, length, drop, append_assoc, append-nil, Option, Some, None, slice_get, arith}
use Rattle.flat_expr.specs.declared.statement.Statement.{Statement, out-Statement}
use Rattle.flat_expr.specs.declared.statement.Statement.TheOpen.{Statement-F}
use Rattle.flat_design.specs.declared.objects.PathStep.{PathStep}
use Rattle.cycle_meaning.specs.Task.{Task, statement, again, first_turn, next_turn, statements, branch_body, alternative_body, Layer, left_inside, left_of, behind}
use Rattle.cycle_meaning.specs.World.{Local}
use Rattle.cycle_meaning.specs.Processes.{parameter_of, loops_in}
use Rattle.design_rules.specs.Ways.{layer_of, layer_at, inner_body, IsBranch, parameter_in, LeadsTo}
use Rattle.design_rules.proofs.Each.{layer_or}
use Rattle.process_laws.specs.Resumed.{Surroundings, outermost, inside, body_in, AreOf, turns_of, left_round}

-- ---- lists

pub drop_past : {X : Type 0} (xs : List X) (k : ℕ) (x : X) (ys : List X) → drop k xs ≡ x ∷ ys → drop (suc k) xs ≡ ys
drop_past [] zero x ys h = grind arith
drop_past [] (suc k) x ys h = grind arith
drop_past (y ∷ xs) zero x ys h = grind arith
drop_past (y ∷ xs) (suc k) x ys h = drop_past xs k x ys h

pub get_at : {X : Type 0} (xs : List X) (k : ℕ) (x : X) (ys : List X) → drop k xs ≡ x ∷ ys → slice_get xs k ≡ Some x
get_at [] zero x ys h = grind arith
get_at [] (suc k) x ys h = grind arith
get_at (y ∷ xs) zero x ys h = grind arith
get_at (y ∷ xs) (suc k) x ys h = get_at xs k x ys h

pub drop_whole : {X : Type 0} (xs : List X) → drop (length xs) xs ≡ []
drop_whole [] = refl
drop_whole (x ∷ xs) = drop_whole xs

pub statement_at : (xs : List Statement) (k : ℕ) (s : Statement) (ys : List Statement) → drop k xs ≡ s ∷ ys → layer_at k xs ≡ Some (out-Statement s)
statement_at xs k s ys h = ap layer_of (get_at xs k s ys h)

-- ---- the way to a place

unfoldable pub way : Surroundings → List PathStep
way outermost = []
way (inside c k b layer last) = way c ++ record { statement = k; branch = b } ∷ []

unfoldable pub parameters_round : Surroundings → List ℕ
parameters_round outermost = []
parameters_round (inside c k b layer last) = parameters_round c ++ parameter_in layer

abbrev pub loop_of : Local → Layer → ℤ → List (ℤ × ℤ)
loop_of l (Statement-F.For p left direction right body) last = (parameter_of l p, last) ∷ []
loop_of l _ last = []

unfoldable pub loops_round : Local → Surroundings → List (ℤ × ℤ)
loops_round l outermost = []
loops_round l (inside c k b layer last) = loops_round l c ++ loop_of l layer last

pub leads_on : (top : List Statement) (c : Surroundings) → AreOf top c → (steps : List PathStep) (ps : List ℕ) (k : ℕ) (goal : Layer)
    → LeadsTo steps ps k goal (body_in top c) → LeadsTo (way c ++ steps) (parameters_round c ++ ps) k goal top
unfolding way parameters_round
leads_on top outermost h steps ps k goal to = to
leads_on top (inside c j b layer last) h steps ps k goal to =
    rw (append_assoc, append_assoc)
    (leads_on top c h.0 (record { statement = j; branch = b } ∷ steps) (parameter_in layer ++ ps) k goal (layer, ps, h.1, h.2, refl, to))

-- ---- the loops round a place

pub loops_in-append : (l : Local) (xs ys : List Task) → loops_in l (xs ++ ys) ≡ loops_in l ys ++ loops_in l xs
loops_in-append l [] ys = sym (append-nil (loops_in l ys))
loops_in-append l (statement s ∷ xs) ys = loops_in-append l xs ys
loops_in-append l (again condition body ∷ xs) ys = loops_in-append l xs ys
loops_in-append l (first_turn p direction from last body ∷ xs) ys = loops_in-append l xs ys
loops_in-append l (next_turn p direction last body ∷ xs) ys =
    ap (λ (z : List (ℤ × ℤ)). z ++ (parameter_of l p, last) ∷ []) (loops_in-append l xs ys)
    ∙ append_assoc (loops_in l ys) (loops_in l xs) ((parameter_of l p, last) ∷ [])

pub loops_in-statements : (l : Local) (body : List Statement) → loops_in l (statements body) ≡ []
loops_in-statements l [] = refl
loops_in-statements l (s ∷ body) = loops_in-statements l body

pub loops_in-turns : (l : Local) (layer : Layer) (last : ℤ) → loops_in l (turns_of layer last) ≡ loop_of l layer last
loops_in-turns l (Statement-F.Loop condition body) last = refl
loops_in-turns l (Statement-F.For p left direction right body) last = refl
loops_in-turns l (Statement-F.SignalAssignment a b c d) last = refl
loops_in-turns l (Statement-F.VariableAssignment a b c) last = refl
loops_in-turns l (Statement-F.If a b) last = refl
loops_in-turns l (Statement-F.Case a b) last = refl
loops_in-turns l (Statement-F.Exit a) last = refl
loops_in-turns l (Statement-F.Next a) last = refl
loops_in-turns l (Statement-F.Wait a b c d) last = refl
loops_in-turns l (Statement-F.Assert a b c) last = refl
loops_in-turns l (Statement-F.Report a b) last = refl
loops_in-turns l (Statement-F.Break a b) last = refl
loops_in-turns l Statement-F.Null last = refl

pub loops_in-body : (l : Local) (body : List Statement) (rest : List Task) → loops_in l (statements body ++ rest) ≡ loops_in l rest
loops_in-body l body rest =
    loops_in-append l (statements body) rest ∙ (ap (λ (z : List (ℤ × ℤ)). loops_in l rest ++ z) (loops_in-statements l body) ∙ append-nil (loops_in l rest))

pub loops_in-round : (l : Local) (top : List Statement) (c : Surroundings) → loops_in l (left_round top c) ≡ loops_round l c
unfolding loops_round
loops_in-round l top outermost = refl
loops_in-round l top (inside c k b layer last) =
    loops_in-append l (turns_of layer last) (statements (drop (k + 1) (body_in top c)) ++ left_round top c)
    ∙ (ap (λ (z : List (ℤ × ℤ)). z ++ loops_in l (turns_of layer last)) (loops_in-body l (drop (k + 1) (body_in top c)) (left_round top c) ∙ loops_in-round l top c)
    ∙ ap (λ (z : List (ℤ × ℤ)). loops_round l c ++ z) (loops_in-turns l layer last))

-- ---- what is left behind a way is what is left round the place that it leads to

pub left_inside_branch : (inner : List (ℤ × ℤ) → List Statement → List Task) (b : ℕ) (l : Local) (more : List (ℤ × ℤ)) (layer : Layer) (last : ℤ)
    → IsBranch b layer → left_inside inner b (loop_of l layer last ++ more) layer ≡ inner more (inner_body b layer) ++ turns_of layer last
left_inside_branch inner b l more (Statement-F.If branches others) last h = sym (append-nil (inner more (branch_body branches others b)))
left_inside_branch inner b l more (Statement-F.Case e alternatives) last h = sym (append-nil (inner more (alternative_body alternatives b)))
left_inside_branch inner b l more (Statement-F.Loop condition body) last h = refl
left_inside_branch inner b l more (Statement-F.For p left direction right body) last h = refl
left_inside_branch inner b l more (Statement-F.SignalAssignment x y z w) last h = absurd h
left_inside_branch inner b l more (Statement-F.VariableAssignment x y z) last h = absurd h
left_inside_branch inner b l more (Statement-F.Exit x) last h = absurd h
left_inside_branch inner b l more (Statement-F.Next x) last h = absurd h
left_inside_branch inner b l more (Statement-F.Wait x y z w) last h = absurd h
left_inside_branch inner b l more (Statement-F.Assert x y z) last h = absurd h
left_inside_branch inner b l more (Statement-F.Report x y) last h = absurd h
left_inside_branch inner b l more (Statement-F.Break x y) last h = absurd h
left_inside_branch inner b l more Statement-F.Null last h = absurd h

pub left_of_layer : (inner : List (ℤ × ℤ) → List Statement → List Task) (b : ℕ) (loops : List (ℤ × ℤ)) (o : Option Statement) (layer : Layer)
    → layer_of o ≡ Some layer → left_of inner b loops o ≡ left_inside inner b loops layer
left_of_layer inner b loops None layer h = absurd (grind arith)
left_of_layer inner b loops (Some s) layer h = ap (left_inside inner b loops) (ap (layer_or layer) h)

pub behind_joins : (l : Local) (top : List Statement) (c : Surroundings) → AreOf top c → (path : List PathStep) (more : List (ℤ × ℤ))
    → behind (way c ++ path) (loops_round l c ++ more) top ≡ behind path more (body_in top c) ++ left_round top c
unfolding way loops_round behind
behind_joins l top outermost h path more = sym (append-nil (behind path more top))
behind_joins l top (inside c k b layer last) h path more =
    ap (λ (z : List PathStep). behind z ((loops_round l c ++ loop_of l layer last) ++ more) top) (append_assoc (way c) (record { statement = k; branch = b } ∷ []) path)
    ∙ (ap (λ (z : List (ℤ × ℤ)). behind (way c ++ record { statement = k; branch = b } ∷ path) z top) (append_assoc (loops_round l c) (loop_of l layer last) more)
    ∙ (behind_joins l top c h.0 (record { statement = k; branch = b } ∷ path) (loop_of l layer last ++ more)
    ∙ (ap (λ (z : List Task). (z ++ statements (drop (k + 1) (body_in top c))) ++ left_round top c)
    (left_of_layer (behind path) b (loop_of l layer last ++ more) (slice_get (body_in top c) k) layer h.1
    ∙ left_inside_branch (behind path) b l more layer last h.2)
    ∙ (append_assoc (behind path more (inner_body b layer) ++ turns_of layer last) (statements (drop (k + 1) (body_in top c))) (left_round top c)
    ∙ append_assoc (behind path more (inner_body b layer)) (turns_of layer last) (statements (drop (k + 1) (body_in top c)) ++ left_round top c)))))
