-- Events that are given one by one.
use Rattle.std.proofs.Common.{◌≡◌, ℕ, true, IsTrue, Option, Some, None, subst, ◌<◌, ◌+◌, List, [], ◌∷◌, ◌++◌, length, get_or, drop, refl, sym, ap, ◌∙◌, add-one, append_assoc, append-nil}
use Rattle.std.proofs.Math.Seq.{drop-cons, drop-length}
use Rattle.std.proofs.lemmas.List.Elements.{All-nil, All-cons, All-head, All-tail, All-append}
use Rattle.ams_value.specs.declared.val.Val.{Val}
use Rattle.step_data.specs.declared.event.Event.{Event}
use Rattle.step_model.specs.Kernel.{AddsFront}
use Rattle.step_model.specs.Printing.{can_print, CanPrint}
use Rattle.step_model.specs.System.{System}
use Rattle.listed_models.specs.declared.rows.CycleRow.{CycleRow}
use Rattle.listed_models.specs.declared.rows.Given.{Given}
use Rattle.listed_models.specs.declared.rows.Given.TheVariants as given
use Rattle.listed_models.specs.Listing.{event_of, events_of, events_at}

-- a front of the whole was added, and the rest is to come
pub record Gave (old new whole rest : List Event) : Type 0 where
  pub front : List Event
  pub new_is : new ≡ old ++ front
  pub whole_is : front ++ rest ≡ whole

pub none_yet : (out whole : List Event) → Gave out out whole whole
none_yet out whole = record { front = []; new_is = sym (append-nil out); whole_is = refl }

pub one_more : (old new new' whole : List Event) (t n k : ℕ) (gs : List Given) (d : Given) → k < length gs → Gave old new whole (events_of t n (drop k gs)) → new' ≡ new ++ event_of t n (get_or gs k d) ∷ [] → Gave old new' whole (events_of t n (drop (k + 1) gs))
one_more old new new' whole t n k gs d low g e =
    let added : List Event = event_of t n (get_or gs k d) ∷ [] in
    let next : drop k gs ≡ get_or gs k d ∷ drop (k + 1) gs = rw add-one (drop-cons gs k d low) in
    record {
      front = g.front ++ added;
      new_is = e ∙ ap (λ xs. xs ++ added) g.new_is ∙ append_assoc old g.front added;
      whole_is =
          append_assoc g.front added (events_of t n (drop (k + 1) gs))
          ∙ ap (λ xs. g.front ++ xs) (sym (ap (λ xs. events_of t n xs) next))
          ∙ g.whole_is;
    }

pub all_there : (old new whole : List Event) (t n k : ℕ) (gs : List Given) → k ≡ length gs → Gave old new whole (events_of t n (drop k gs)) → new ≡ old ++ whole
all_there old new whole t n k gs end g =
    g.new_is
    ∙ ap (λ xs. old ++ xs)
    (sym (append-nil g.front) ∙ ap (λ xs. g.front ++ xs) (sym none) ∙ g.whole_is)
  where
    none : events_of t n (drop k gs) ≡ []
    none = ap (λ xs. events_of t n xs) (ap (λ j. drop j gs) end ∙ drop-length gs)

pub front_there : (old new whole rest : List Event) → Gave old new whole rest → AddsFront old new whole
front_there old new whole rest g = record { front = g.front; is_front = (rest, g.whole_is); new_is = g.new_is }

event-prints : (sys : System) → ((v : Val) → sys.is_printable v ≡ true) → (t n : ℕ) (g : Given) → IsTrue (can_print sys (event_of t n g))
event-prints sys all t n given.Domain = refl
event-prints sys all t n (given.Cross k on) = refl
event-prints sys all t n (given.Signal value) = all value
event-prints sys all t n (given.Broke element) = refl

given-prints : (sys : System) → ((v : Val) → sys.is_printable v ≡ true) → (t n : ℕ) (gs : List Given) → CanPrint sys (events_of t n gs)
given-prints sys all t n [] = All-nil (λ e. IsTrue (can_print sys e))
given-prints sys all t n (g ∷ gs) =
    All-cons (λ e. IsTrue (can_print sys e)) (event_of t n g) (events_of t n gs) (event-prints sys all t n g) (given-prints sys all t n gs)

row-prints : (sys : System) → ((v : Val) → sys.is_printable v ≡ true) → (t n : ℕ) (row : Option CycleRow) → CanPrint sys (events_at t n row)
row-prints sys all t n None = All-nil (λ e. IsTrue (can_print sys e))
row-prints sys all t n (Some row) = given-prints sys all t n row.given.items

front-prints : (sys : System) (front rest : List Event) → CanPrint sys (front ++ rest) → CanPrint sys front
front-prints sys [] rest h = All-nil (λ e. IsTrue (can_print sys e))
front-prints sys (e ∷ front) rest h =
    All-cons (λ e. IsTrue (can_print sys e)) e front (All-head (λ e. IsTrue (can_print sys e)) e (front ++ rest) h)
    (front-prints sys front rest (All-tail (λ e. IsTrue (can_print sys e)) e (front ++ rest) h))

-- a cycle that was given, or a front of one, can be printed
pub cycle_prints : (sys : System) → ((v : Val) → sys.is_printable v ≡ true) → (t n : ℕ) (row : Option CycleRow) (old new : List Event) → new ≡ old ++ events_at t n row → CanPrint sys old → CanPrint sys new
cycle_prints sys all t n row old new e h =
    subst (λ es. CanPrint sys es) (sym e) (All-append (λ e. IsTrue (can_print sys e)) old (events_at t n row) h (row-prints sys all t n row))

pub front_prints : (sys : System) → ((v : Val) → sys.is_printable v ≡ true) → (t n : ℕ) (row : Option CycleRow) (old new : List Event) → AddsFront old new (events_at t n row) → CanPrint sys old → CanPrint sys new
front_prints sys all t n row old new f h =
    let (rest, e) = f.is_front in
    subst (λ es. CanPrint sys es) (sym f.new_is)
    (All-append (λ e. IsTrue (can_print sys e)) old f.front h
    (front-prints sys f.front rest (subst (λ es. CanPrint sys es) (sym e) (row-prints sys all t n row))))

-- where no cycle is listed nothing is given
pub nothing_given : (out : List Event) (t n : ℕ) (row : Option CycleRow) → row ≡ None → out ≡ out ++ events_at t n row
nothing_given out t n None e = sym (append-nil out)
nothing_given out t n (Some row) e = cc
