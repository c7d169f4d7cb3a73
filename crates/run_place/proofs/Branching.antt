-- The branches that are given one by one.
use Rattle.std.proofs.Common.{◌≡◌, ℕ, ◌+◌, ◌<◌, ◌==◌, ◌&&◌, Bool, true, false, ℤ, List, [], ◌∷◌, ◌++◌, length, get_or, drop, refl, sym, ap, ◌∙◌, add-one, append_assoc, append-nil, Result, Ok, Err, OnOk, OnErr, arith}
use Rattle.std.proofs.Math.Seq.{drop-cons, drop-length}
use Rattle.std.proofs.lemmas.Bool.Decides.{nat_tests}
use Rattle.step_data.specs.declared.event.Event.{Event}
use Rattle.step_data.specs.declared.event.Event.TheVariants.{Solved}
use Rattle.step_model.specs.Kernel.{AddsFront}
use Rattle.lockstep_model.specs.Lockstep.{branch_event, branch_events}
use Rattle.run_place.specs.Places.{branches_of}
use Rattle.run_place.specs.Giving.{Gave}

-- what is still to be given from a choice on
abbrev pub branches_left : ℕ → ℕ → List ℕ → Bool → List ℕ → ℕ → List Event
branches_left t n bs has_old old k = branch_events t n k (drop k bs) (branches_of has_old (drop k old))

pub nothing_given : (out whole : List Event) → Gave out out whole whole
nothing_given out whole = record { front = []; new_is = sym (append-nil out); whole_is = refl }

pub more_given : (old new added whole rest : List Event) → Gave old new whole (added ++ rest) → Gave old (new ++ added) whole rest
more_given old new added whole rest g =
    record {
      front = g.front ++ added;
      new_is = ap (λ xs. xs ++ added) g.new_is ∙ append_assoc old g.front added;
      whole_is = append_assoc g.front added rest ∙ g.whole_is;
    }

pub all_given : (old new whole : List Event) → Gave old new whole [] → new ≡ old ++ whole
all_given old new whole g = g.new_is ∙ ap (λ xs. old ++ xs) (sym (append-nil g.front) ∙ g.whole_is)

pub front_given : (old new whole rest : List Event) → Gave old new whole rest → AddsFront old new whole
front_given old new whole rest g = record { front = g.front; is_front = (rest, g.whole_is); new_is = g.new_is }

next-branch : (t n k : ℕ) (has_old : Bool) (b o : ℕ) (bs os : List ℕ) → branch_events t n k (b ∷ bs) (branches_of has_old (o ∷ os)) ≡ branch_event (has_old && (b == o)) t n k b ++ branch_events t n (k + 1) bs (branches_of has_old os)
unfolding branch_events
next-branch t n k true b o bs os = refl
next-branch t n k false b o bs os = refl

pub branch_next : (t n : ℕ) (bs : List ℕ) (has_old : Bool) (old : List ℕ) (k : ℕ) → k < length bs → length old ≡ length bs → branches_left t n bs has_old old k ≡ branch_event (has_old && (get_or bs k 0 == get_or old k 0)) t n k (get_or bs k 0) ++ branches_left t n bs has_old old (k + 1)
branch_next t n bs has_old old k low same =
    let b : drop k bs ≡ get_or bs k 0 ∷ drop (k + 1) bs = rw add-one (drop-cons bs k 0 low) in
    let o : drop k old ≡ get_or old k 0 ∷ drop (k + 1) old = rw add-one (drop-cons old k 0 (omega arith)) in
    ap (λ xs. branch_events t n k xs (branches_of has_old (drop k old))) b
    ∙ ap (λ xs. branch_events t n k (get_or bs k 0 ∷ drop (k + 1) bs) (branches_of has_old xs)) o
    ∙ next-branch t n k has_old (get_or bs k 0) (get_or old k 0) (drop (k + 1) bs) (drop (k + 1) old)

pub branch_last : (t n : ℕ) (bs : List ℕ) (has_old : Bool) (old : List ℕ) (k : ℕ) → k ≡ length bs → branches_left t n bs has_old old k ≡ []
unfolding branch_events
branch_last t n bs has_old old k end = ap (λ xs. branch_events t n k xs (branches_of has_old (drop k old))) (ap (λ j. drop j bs) end ∙ drop-length bs)

-- no branch changes where none was chosen
pub same_branches : (t n k : ℕ) (bs : List ℕ) → branch_events t n k bs bs ≡ []
unfolding branch_events
same_branches t n k [] = refl
same_branches t n k (b ∷ bs) =
    let same : (b == b) ≡ true = grind (arith, nat_tests) in
    ap (λ c. branch_event c t n k b ++ branch_events t n (k + 1) bs bs) same ∙ same_branches t n (k + 1) bs

-- the point behind its branches
pub point_given : {A E : Type 0} (r : Result A E) (old mid new changes : List Event) (t n : ℕ) (x : List ℤ) → mid ≡ old ++ changes → OnOk r (new ≡ mid ++ Solved t n x ∷ []) → OnOk r (new ≡ old ++ (changes ++ Solved t n x ∷ []))
point_given (Ok a) old mid new changes t n x given e = e ∙ ap (λ xs. xs ++ Solved t n x ∷ []) given ∙ append_assoc old changes (Solved t n x ∷ [])
point_given (Err f) old mid new changes t n x given e = tt

pub front_more : (old new changes more : List Event) → AddsFront old new changes → AddsFront old new (changes ++ more)
front_more old new changes more f =
    let (rest, e) = f.is_front in
    record { front = f.front; is_front = (rest ++ more, sym (append_assoc f.front rest more) ∙ ap (λ xs. xs ++ more) e); new_is = f.new_is }

pub front_only : {A E : Type 0} (r : Result A E) (old mid new changes more : List Event) → mid ≡ old ++ changes → OnErr r (new ≡ mid) → OnErr r (AddsFront old new (changes ++ more))
front_only (Ok a) old mid new changes more given e = tt
front_only (Err f) old mid new changes more given e = record { front = changes; is_front = (more, refl); new_is = e ∙ given }
