-- The events that were given so far are a front of all.
use Rattle.std.specs.Prelude.{◌≡◌, List, [], ◌∷◌, ◌++◌, refl, Result, Ok, Err, OnOk, OnErr}
use Rattle.std.proofs.Common.{ap, sym, subst, ◌∙◌, append_assoc, append-nil}
use Rattle.step_data.specs.declared.event.Event.{Event}
use Rattle.step_model.specs.Kernel.{AddsFront}
use Rattle.step_data.specs.declared.outcome.End.{End}
use Rattle.lockstep_model.specs.declared.moves.Moved.{Moved}
use Rattle.lockstep_model.specs.declared.moves.Moved.TheVariants as says
use Rattle.lockstep_model.specs.Walk.{Walk, EndsAll}
use Rattle.lockstep_model.specs.Works.{events_of}
use Rattle.run_place.specs.Giving.{Gave}

pub gave_none : (out whole : List Event) → Gave out out whole whole
gave_none out whole = record { front = []; new_is = sym (append-nil out); whole_is = refl }

pub gave_then : (a b c whole mid rest : List Event) → Gave a b whole mid → Gave b c mid rest → Gave a c whole rest
gave_then a b c whole mid rest g h =
    record {
      front = g.front ++ h.front;
      new_is = h.new_is ∙ ap (λ (xs : List Event). xs ++ h.front) g.new_is ∙ append_assoc a g.front h.front;
      whole_is = append_assoc g.front h.front rest ∙ ap (λ (xs : List Event). g.front ++ xs) h.whole_is ∙ g.whole_is;
    }

pub gave_front : (a b c whole mid : List Event) → Gave a b whole mid → AddsFront b c mid → AddsFront a c whole
gave_front a b c whole mid g h =
    let (rest, e) = h.is_front in
    record {
      front = g.front ++ h.front;
      is_front = (rest, append_assoc g.front h.front rest ∙ ap (λ (xs : List Event). g.front ++ xs) e ∙ g.whole_is);
      new_is = h.new_is ∙ ap (λ (xs : List Event). xs ++ h.front) g.new_is ∙ append_assoc a g.front h.front;
    }

pub gave_all : (a b whole rest : List Event) → rest ≡ [] → Gave a b whole rest → b ≡ a ++ whole
gave_all a b whole [] e g = g.new_is ∙ ap (λ (xs : List Event). a ++ xs) (sym (append-nil g.front) ∙ g.whole_is)
gave_all a b whole (x ∷ rest) e g = cc

-- where the end is told nothing is left
pub none_at_end : (y : Walk) (said : Moved) (e : End) → said ≡ says.Ended e → EndsAll y said → events_of y.works ≡ []
none_at_end y (says.Ended f) e is h = ap events_of h.0
none_at_end y (says.Ask ask) e is h = cc

pub events_on : {A E : Type 0} (r : Result A E) (a b c whole whole' mid : List Event) → Gave a b whole mid → whole ≡ whole' → OnOk r (c ≡ b ++ mid) → OnOk r (c ≡ a ++ whole')
events_on (Ok x) a b c whole whole' mid g same e =
    e ∙ ap (λ (xs : List Event). xs ++ mid) g.new_is ∙ append_assoc a g.front mid ∙ ap (λ (xs : List Event). a ++ xs) (g.whole_is ∙ same)
events_on (Err f) a b c whole whole' mid g same e = tt

pub front_on : {A E : Type 0} (r : Result A E) (a b c whole whole' mid : List Event) → Gave a b whole mid → whole ≡ whole' → OnErr r (AddsFront b c mid) → OnErr r (AddsFront a c whole')
front_on (Ok x) a b c whole whole' mid g same h = tt
front_on (Err f) a b c whole whole' mid g same h = subst (λ (xs : List Event). AddsFront a c xs) same (gave_front a b c whole mid g h)
