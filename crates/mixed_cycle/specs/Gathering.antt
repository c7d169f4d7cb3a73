-- Break elements that are gathered stay elements of the design.
use Rattle.std.specs.Prelude.{◌==◌, Bool, true, false, cond, List, [], ◌∷◌, All}
use Rattle.std.proofs.lemmas.List.Elements.{All-nil, All-cons, All-head, All-tail}
use Rattle.step_data.specs.declared.breaks.Element.{Element}
use Rattle.lockstep_model.specs.Lockstep.{with_element, gathered_with}

put-all : (P : Element → Type 0) (olds : List Element) (e : Element) → All P olds → P e → All P (with_element olds e)
unfolding with_element
put-all P [] e all h = All-cons P e [] h (All-nil P)
put-all P (o ∷ olds) e all h =
    elim (o.selector == e.selector) as (λ b. All P (cond b (e ∷ olds) (o ∷ with_element olds e))) [
      | true ↦ All-cons P e olds h (All-tail P o olds all)
      | false ↦ All-cons P o (with_element olds e) (All-head P o olds all) (put-all P olds e (All-tail P o olds all) h)
    ]

pub gather_all : (P : Element → Type 0) (olds more : List Element) → All P olds → All P more → All P (gathered_with olds more)
unfolding gathered_with
gather_all P olds [] all new = all
gather_all P olds (e ∷ es) all new = gather_all P (with_element olds e) es (put-all P olds e all (All-head P e es new)) (All-tail P e es new)

pub gathered_all : (P : Element → Type 0) (timed : Bool) (olds more : List Element) → All P olds → All P more → All P (cond timed olds (gathered_with olds more))
gathered_all P true olds more all new = all
gathered_all P false olds more all new = gather_all P olds more all new
