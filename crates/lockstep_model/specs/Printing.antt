-- The events of points can be printed.
use Rattle.std.specs.Prelude.{ℕ, ◌+◌, ◌==◌, Bool, true, false, ℤ, IsTrue, List, [], ◌∷◌, refl}
use Rattle.std.proofs.lemmas.List.Elements.{All-nil, All-cons, All-append}
use Rattle.step_data.specs.declared.event.Event.{Event}
use Rattle.step_data.specs.declared.event.Event.TheVariants.{Solved, Branch}
use Rattle.step_model.specs.System.{System}
use Rattle.step_model.specs.Printing.{can_print, CanPrint}
use Rattle.lockstep_model.specs.Lockstep.{branch_event, branch_events, point_events}

abbrev CanBe : System → Event → Type 0
CanBe sys e = IsTrue (can_print sys e)

branch-prints : (sys : System) (same : Bool) (t n k b : ℕ) → CanPrint sys (branch_event same t n k b)
branch-prints sys true t n k b = All-nil (CanBe sys)
branch-prints sys false t n k b = All-cons (CanBe sys) (Branch t n k b) [] refl (All-nil (CanBe sys))

branches-print : (sys : System) (t n k : ℕ) (bs olds : List ℕ) → CanPrint sys (branch_events t n k bs olds)
unfolding branch_events
branches-print sys t n k [] olds = All-nil (CanBe sys)
branches-print sys t n k (b ∷ bs) [] =
    All-cons (CanBe sys) (Branch t n k b) (branch_events t n (k + 1) bs []) refl (branches-print sys t n (k + 1) bs [])
branches-print sys t n k (b ∷ bs) (old ∷ olds) =
    All-append (CanBe sys) (branch_event (b == old) t n k b) (branch_events t n (k + 1) bs olds)
    (branch-prints sys (b == old) t n k b) (branches-print sys t n (k + 1) bs olds)

-- a point, and the branches before it
pub points_print : (sys : System) (t n : ℕ) (x : List ℤ) (branches olds : List ℕ) → CanPrint sys (point_events t n x branches olds)
points_print sys t n x branches olds =
    All-append (CanBe sys) (branch_events t n 0 branches olds) (Solved t n x ∷ []) (branches-print sys t n 0 branches olds)
    (All-cons (CanBe sys) (Solved t n x) [] refl (All-nil (CanBe sys)))
