-- Statements with others inside: the branches of an if, the alternatives of a case, the bodies of loops.
use Rattle.std.proofs.Common.{◌≡◌, ◌≤◌, ◌<◌, ◌+◌, ℕ, zero, suc, arith, ◌⊎◌, inl, inr, ⊎_elim, true, List, [], ◌∷◌, ◌++◌, length, length-append, append-nil, append_assoc, refl, ap, sym, subst}
use Rattle.std.specs.Prelude.{nat_eq}
use Rattle.std.specs.List.{All, list_any}
use Rattle.std.proofs.lemmas.List.Elements.{All-nil}
use Rattle.ams_value.specs.declared.value_type.ValueType.TheVariants.{Boolean}
use Rattle.flat_expr.specs.declared.statement.Alternative.{Alternative, out-Alternative}
use Rattle.flat_expr.specs.declared.statement.Branch.{Branch, out-Branch}
use Rattle.flat_expr.specs.declared.statement.Statement.{Statement, out-Statement}
use Rattle.flat_expr.specs.declared.statement.Statement.TheOpen.{Statement-F}
use Rattle.flat_design.specs.declared.objects.Objects.{Objects}
use Rattle.flat_design.specs.declared.objects.PathStep.{PathStep}
use Rattle.flat_design.specs.declared.objects.Process.{Process}
use Rattle.cycle_meaning.specs.Task.{Layer, branch_body, alternative_body}
use Rattle.unit_meaning.specs.declared.draft.Spot.{Spot}
use Rattle.design_rules.specs.Types.{IsExpression}
use Rattle.design_rules.specs.Ways.{IsBranch, parameter_in, inner_body, IsSafe, HasOwn}
use Rattle.design_rules.specs.Building.{IsPlaced}
use Rattle.design_rules.specs.Statements.{IsAllowed}
use Rattle.place_laws.specs.Places.{EachPlace, HoldsHere, Stands, Assigns, AssignsHere}
use Rattle.place_laws.proofs.Places.{none_stands, one_more_stands, assigns_first, assigns_later}
use Rattle.body_laws.specs.Bodies.{StatementIs, BodyIs}

module _ (objects : Objects) (p : Process) where
  abbrev pub At : List PathStep → List ℕ → ℕ → ℕ → List Statement → Type 0
  At path ps i b body = EachPlace (Stands objects p) (path ++ record { statement = i; branch = b } ∷ []) ps body

  moved : (path : List PathStep) (ps : List ℕ) (i b c : ℕ) (body : List Statement) → b ≡ c → At path ps i b body → At path ps i c body
  moved path ps i b c body e h = subst (λ (n : ℕ). At path ps i n body) e h

  -- ---- a further statement of a body

  pub body_first : (spot : Spot) (i : ℕ) (before between after : List ℕ) (s : Statement) (all : List Statement)
      → StatementIs objects p spot i before between s → BodyIs objects p spot (i + 1) between after all → BodyIs objects p spot i before after (s ∷ all)
  body_first spot i before between after s all h g =
      record {
        places = λ front len old.
            let size : length (front ++ s ∷ []) ≡ i + 1 = sized front len in
            let here : HoldsHere (Stands objects p) spot.path spot.parameters (length front) (out-Statement s) =
            subst (λ (n : ℕ). HoldsHere (Stands objects p) spot.path spot.parameters n (out-Statement s)) (sym len) h.places in
            subst (EachPlace (Stands objects p) spot.path spot.parameters) (append_assoc front (s ∷ []) all)
            (g.places (front ++ s ∷ []) size (one_more_stands objects p spot.path spot.parameters front s old here));
        drivers = λ j is.
            ⊎_elim (λ earlier. ⊎_elim (λ old. inl old) (λ here. inr (assigns_first j s all here)) (h.drivers j earlier)) (λ there. inr (assigns_later j s all there)) (g.drivers j is);
      }
    where
      sized : (front : List Statement) → length front ≡ i → length (front ++ s ∷ []) ≡ i + 1
      sized front len =
          let longer : length (front ++ s ∷ []) ≡ length front + 1 = length-append front (s ∷ []) in
          omega arith

  pub body_none : (spot : Spot) (i : ℕ) (before : List ℕ) → BodyIs objects p spot i before before []
  body_none spot i before =
      record { places = λ front len old. subst (EachPlace (Stands objects p) spot.path spot.parameters) (sym (append-nil front)) old; drivers = λ j h. inl h }

  -- a body by itself
  pub body_places : (spot : Spot) (before after : List ℕ) (all : List Statement) → BodyIs objects p spot 0 before after all → EachPlace (Stands objects p) spot.path spot.parameters all
  body_places spot before after all h = h.places [] refl (none_stands objects p spot.path spot.parameters)

  -- ---- branches of an if, of which the first has the number `k`

  pub record BranchesAre (path : List PathStep) (ps : List ℕ) (i k size : ℕ) (before after : List ℕ) (arms : List Branch) : Type 0 where
    pub count : length arms ≡ size
    pub conditions : All (λ (b : Branch). IsExpression objects p ps Boolean (out-Branch b).condition) arms
    pub places : (last : List Statement) → At path ps i (k + length arms) last → (b : ℕ) → b ≤ length arms → At path ps i (k + b) (branch_body arms last b)
    pub drivers : (j : ℕ) → list_any (nat_eq j) after ≡ true
        → (list_any (nat_eq j) before ≡ true) ⊎ ((b : ℕ) × (b ≤ length arms) × ((last : List Statement) → Assigns j (branch_body arms last b)))

  pub no_branches : (path : List PathStep) (ps : List ℕ) (i k : ℕ) (before : List ℕ) → BranchesAre path ps i k 0 before before []
  no_branches path ps i k before =
      record {
        count = refl;
        conditions = All-nil _;
        places = λ last h b le. moved path ps i (k + 0) (k + b) last (none_left k b le) h;
        drivers = λ j h. inl h;
      }
    where
      none_left : (k b : ℕ) → b ≤ 0 → k + 0 ≡ k + b
      none_left k b le = omega arith

  -- a branch: its condition, its statements, and the signals that these assign
  pub record BranchIs (path : List PathStep) (ps : List ℕ) (i k : ℕ) (before after : List ℕ) (arm : Branch) : Type 0 where
    pub condition : IsExpression objects p ps Boolean (out-Branch arm).condition
    pub places : At path ps i k (out-Branch arm).body
    pub drivers : (j : ℕ) → list_any (nat_eq j) after ≡ true → (list_any (nat_eq j) before ≡ true) ⊎ Assigns j (out-Branch arm).body

  cons_all : (R : Branch → Type 0) (x : Branch) (all : List Branch) → R x → All R all → All R (x ∷ all)
  cons_all R x all h g zero d lt = h
  cons_all R x all h g (suc i) d lt = g i d (omega arith)

  pub more_branches : (path : List PathStep) (ps : List ℕ) (i k size : ℕ) (before between after : List ℕ) (arm : Branch) (arms : List Branch)
      → BranchIs path ps i k before between arm → BranchesAre path ps i (k + 1) size between after arms → BranchesAre path ps i k (suc size) before after (arm ∷ arms)
  more_branches path ps i k size before between after arm arms h g =
      record {
        count = ap suc g.count;
        conditions = cons_all (λ (b : Branch). IsExpression objects p ps Boolean (out-Branch b).condition) arm arms h.condition g.conditions;
        places = placed;
        drivers = λ j is.
            ⊎_elim (λ earlier. ⊎_elim (λ old. inl old) (λ here. inr (0, omega arith, λ last. here)) (h.drivers j earlier)) (λ there. inr (suc there.0, below there.0 there.1, there.2)) (g.drivers j is);
      }
    where
      below : (b : ℕ) → b ≤ length arms → suc b ≤ suc (length arms)
      below b le = omega arith

      at_start : (k : ℕ) → k ≡ k + 0
      at_start k = omega arith

      next : (b : ℕ) → (k + 1) + b ≡ k + suc b
      next b = omega arith

      placed : (last : List Statement) → At path ps i (k + suc (length arms)) last → (b : ℕ) → b ≤ suc (length arms) → At path ps i (k + b) (branch_body (arm ∷ arms) last b)
      placed last at zero le = moved path ps i k (k + 0) (out-Branch arm).body (at_start k) h.places
      placed last at (suc b) le =
          moved path ps i ((k + 1) + b) (k + suc b) (branch_body arms last b) (next b)
          (g.places last (moved path ps i (k + suc (length arms)) ((k + 1) + length arms) last (sym (next (length arms))) at) b (omega arith))

  -- ---- alternatives of a case

  pub record AlternativesAre (path : List PathStep) (ps : List ℕ) (i k : ℕ) (before after : List ℕ) (arms : List Alternative) : Type 0 where
    pub places : (b : ℕ) → b < length arms → At path ps i (k + b) (alternative_body arms b)
    pub drivers : (j : ℕ) → list_any (nat_eq j) after ≡ true → (list_any (nat_eq j) before ≡ true) ⊎ ((b : ℕ) × (b < length arms) × Assigns j (alternative_body arms b))

  pub no_alternatives : (path : List PathStep) (ps : List ℕ) (i k : ℕ) (before : List ℕ) → AlternativesAre path ps i k before before []
  no_alternatives path ps i k before = record { places = λ b lt. absurd (none b lt); drivers = λ j h. inl h }
    where
      none : (b : ℕ) → b < 0 → ⊥
      none b lt = omega arith

  pub record AlternativeIs (path : List PathStep) (ps : List ℕ) (i k : ℕ) (before after : List ℕ) (arm : Alternative) : Type 0 where
    pub places : At path ps i k (out-Alternative arm).body
    pub drivers : (j : ℕ) → list_any (nat_eq j) after ≡ true → (list_any (nat_eq j) before ≡ true) ⊎ Assigns j (out-Alternative arm).body

  pub more_alternatives : (path : List PathStep) (ps : List ℕ) (i k : ℕ) (before between after : List ℕ) (arm : Alternative) (arms : List Alternative)
      → AlternativeIs path ps i k before between arm → AlternativesAre path ps i (k + 1) between after arms → AlternativesAre path ps i k before after (arm ∷ arms)
  more_alternatives path ps i k before between after arm arms h g =
      record {
        places = placed;
        drivers = λ j is.
            ⊎_elim (λ earlier. ⊎_elim (λ old. inl old) (λ here. inr (0, omega arith, here)) (h.drivers j earlier)) (λ there. inr (suc there.0, below there.0 there.1, there.2)) (g.drivers j is);
      }
    where
      below : (b : ℕ) → b < length arms → suc b < suc (length arms)
      below b le = omega arith

      at_start : (k : ℕ) → k ≡ k + 0
      at_start k = omega arith

      next : (b : ℕ) → (k + 1) + b ≡ k + suc b
      next b = omega arith

      placed : (b : ℕ) → b < suc (length arms) → At path ps i (k + b) (alternative_body (arm ∷ arms) b)
      placed zero le = moved path ps i k (k + 0) (out-Alternative arm).body (at_start k) h.places
      placed (suc b) le = moved path ps i ((k + 1) + b) (k + suc b) (alternative_body arms b) (next b) (g.places b (omega arith))

  -- ---- statements that are made of them

  pub without : (path : List PathStep) (ps : List ℕ) (i b : ℕ) (body : List Statement) → At path ps i b body → At path (ps ++ []) i b body
  without path ps i b body h = subst (λ (l : List ℕ). At path l i b body) (sym (append-nil ps)) h

  last_body : (arms : List Branch) (last : List Statement) → branch_body arms last (length arms) ≡ last
  last_body [] last = refl
  last_body (x ∷ arms) last = last_body arms last

  pub if_is : (spot : Spot) (i size : ℕ) (before between after : List ℕ) (s : Statement) (arms : List Branch) (last : List Statement) → out-Statement s ≡ Statement-F.If arms last
      → BranchesAre spot.path spot.parameters i 0 size before between arms → At spot.path spot.parameters i size last
      → ((j : ℕ) → list_any (nat_eq j) after ≡ true → (list_any (nat_eq j) between ≡ true) ⊎ Assigns j last) → StatementIs objects p spot i before after s
  if_is spot i size before between after s arms last e h at drivers =
      record {
        places =
            subst (HoldsHere (Stands objects p) spot.path spot.parameters i) (sym e) (
              record { allowed = h.conditions; placed = tt; safe = tt; own = tt },
              λ b le. without spot.path spot.parameters i b (branch_body arms last b) (moved spot.path spot.parameters i (0 + b) b (branch_body arms last b) (none_before b) (h.places last (moved spot.path spot.parameters i size (0 + length arms) last (total h.count) at) b le)),
            );
        drivers = λ j is.
            subst (λ (y : Layer). (list_any (nat_eq j) before ≡ true) ⊎ AssignsHere j y) (sym e)
            (⊎_elim
            (λ earlier. ⊎_elim (λ old. inl old) (λ there. inr (inr (there.0, there.1, there.2 last))) (h.drivers j earlier))
            (λ new. inr (inr (length arms, le_same (length arms), subst (Assigns j) (sym (last_body arms last)) new))) (drivers j is));
      }
    where
      none_before : (b : ℕ) → 0 + b ≡ b
      none_before b = omega arith

      total : length arms ≡ size → size ≡ 0 + length arms
      total c = omega arith

      le_same : (n : ℕ) → n ≤ n
      le_same n = omega arith

  pub case_is : (spot : Spot) (i : ℕ) (before after : List ℕ) (s : Statement) (layer : Layer) (arms : List Alternative) → out-Statement s ≡ layer
      → IsAllowed objects p spot.parameters layer → IsPlaced p.waits spot.path spot.parameters i layer → IsSafe (length p.variables) spot.parameters layer → HasOwn spot.parameters layer
      → parameter_in layer ≡ [] → ((b : ℕ) → inner_body b layer ≡ alternative_body arms b) → ((b : ℕ) → IsBranch b layer → b < length arms) → ((b : ℕ) → b < length arms → IsBranch b layer)
      → AlternativesAre spot.path spot.parameters i 0 before after arms → StatementIs objects p spot i before after s
  case_is spot i before after s layer arms e allowed placed safe own none inner down up h =
      record {
        places =
            subst (HoldsHere (Stands objects p) spot.path spot.parameters i) (sym e) (
              record { allowed = allowed; placed = placed; safe = safe; own = own },
              λ b is.
                  subst (λ (l : List ℕ). At spot.path (spot.parameters ++ l) i b (inner_body b layer)) (sym none)
                  (without spot.path spot.parameters i b (inner_body b layer)
                  (subst (At spot.path spot.parameters i b) (sym (inner b)) (moved spot.path spot.parameters i (0 + b) b (alternative_body arms b) (none_before b) (h.places b (down b is))))),
            );
        drivers = λ j is.
            subst (λ (y : Layer). (list_any (nat_eq j) before ≡ true) ⊎ AssignsHere j y) (sym e)
            (⊎_elim (λ old. inl old) (λ there. inr (inr (there.0, up there.0 there.1, subst (Assigns j) (sym (inner there.0)) there.2))) (h.drivers j is));
      }
    where
      none_before : (b : ℕ) → 0 + b ≡ b
      none_before b = omega arith

  -- a loop whose body has these steps and parameters
  pub loop_is : (spot : Spot) (i : ℕ) (before after : List ℕ) (s : Statement) (layer : Layer) (all : List Statement) → out-Statement s ≡ layer
      → IsAllowed objects p spot.parameters layer → IsPlaced p.waits spot.path spot.parameters i layer → IsSafe (length p.variables) spot.parameters layer → HasOwn spot.parameters layer
      → ((b : ℕ) → inner_body b layer ≡ all) → ((b : ℕ) → IsBranch b layer → b ≡ 0) → IsBranch 0 layer
      → At spot.path (spot.parameters ++ parameter_in layer) i 0 all
      → ((j : ℕ) → list_any (nat_eq j) after ≡ true → (list_any (nat_eq j) before ≡ true) ⊎ Assigns j all) → StatementIs objects p spot i before after s
  loop_is spot i before after s layer all e allowed placed safe own inner down up h drivers =
      record {
        places =
            subst (HoldsHere (Stands objects p) spot.path spot.parameters i) (sym e) (
              record { allowed = allowed; placed = placed; safe = safe; own = own },
              λ b is.
                  subst (At spot.path (spot.parameters ++ parameter_in layer) i b) (sym (inner b))
                  (moved spot.path (spot.parameters ++ parameter_in layer) i 0 b all (sym (down b is)) h),
            );
        drivers = λ j is.
            subst (λ (y : Layer). (list_any (nat_eq j) before ≡ true) ⊎ AssignsHere j y) (sym e)
            (⊎_elim (λ old. inl old) (λ new. inr (inr (0, up, subst (Assigns j) (sym (inner 0)) new))) (drivers j is));
      }
