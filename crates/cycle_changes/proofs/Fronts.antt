-- Fronts of events that are given part by part.
use Rattle.std.proofs.Common.{◌≡◌, List, ◌++◌, sym, ap, ◌∙◌, append_assoc}
use Rattle.std.specs.Prelude.{Result, Ok, Err, OnErr}
use Rattle.step_data.specs.declared.event.Event.{Event}
use Rattle.step_model.specs.Kernel.{AddsFront}

pub on_err : {A E : Type 0} (r : Result A E) (P : Type 0) → P → OnErr r P
on_err (Ok a) P h = tt
on_err (Err e) P h = h

-- a front of a part is one of more
pub adds_less : (old new a b : List Event) → AddsFront old new a → AddsFront old new (a ++ b)
adds_less old new a b g = record {
  front = g.front;
  is_front = (g.is_front.0 ++ b, sym (append_assoc g.front g.is_front.0 b) ∙ ap (λ l. l ++ b) g.is_front.1);
  new_is = g.new_is;
}

-- a front behind what was given whole
pub adds_more : (old mid new a b : List Event) → mid ≡ old ++ a → AddsFront mid new b → AddsFront old new (a ++ b)
adds_more old mid new a b e g = record {
  front = a ++ g.front;
  is_front = (g.is_front.0, append_assoc a g.front g.is_front.0 ∙ ap (λ l. a ++ l) g.is_front.1);
  new_is = g.new_is ∙ ap (λ l. l ++ g.front) e ∙ append_assoc old a g.front;
}
