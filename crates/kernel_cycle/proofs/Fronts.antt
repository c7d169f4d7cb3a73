-- Events at the front of a cycle's.
use Rattle.std.proofs.Common.{◌≡◌, refl, ap, sym, ◌∙◌, subst, ℕ, Bool, ℤ, List, [], ◌∷◌, ◌++◌, Result, Ok, Err, append_assoc}
use Rattle.flat_design.specs.declared.objects.Objects.{Objects}
use Rattle.step_data.specs.declared.event.Event.{Event}
use Rattle.step_data.specs.declared.outcome.Refusal.{Refusal}
use Rattle.step_model.specs.System.{Digital}
use Rattle.step_model.specs.Kernel.{AddsFront}
use Rattle.cycle_meaning.specs.World.{World}
use Rattle.cycle_meaning.specs.Cycles.{Ran_of, all_ran, one_refused, context_at, run_all, ended, after_resumption}
use Rattle.proc_exec.specs.Running.{IsFront}
use Rattle.run_laws.specs.Changes.{world_behind}
use Rattle.cycle_parts.specs.Added.{RunsAddEvents}

nothing_behind : {A : Type 0} (xs : List A) → xs ++ [] ≡ xs
nothing_behind [] = refl
nothing_behind (x ∷ xs) = ap (λ l. x ∷ l) (nothing_behind xs)

-- the whole is a front
pub front_is : (events whole : List Event) → whole ≡ events → IsFront events whole
front_is events whole e = ([], e ∙ sym (nothing_behind events))

pub front_of_front : (a b c : List Event) → IsFront a b → IsFront b c → IsFront a c
front_of_front a b c f g = (f.0 ++ g.0, g.1 ∙ ap (λ (l : List Event). l ++ g.0) f.1 ∙ append_assoc a f.0 g.0)

pub front_added : (old new added : List Event) → old ≡ [] → AddsFront old new added → IsFront new added
front_added old new added none h =
    (h.is_front.0, sym h.is_front.1 ∙ ap (λ (l : List Event). l ++ h.is_front.0) (sym (h.new_is ∙ ap (λ (l : List Event). l ++ h.front) none)))

pub ended_events : (d : Digital) (t : ℕ) (timed : Bool) (r : Ran_of) → (ended d t timed r).events ≡ (world_behind r).events
ended_events d t timed (all_ran w states) = refl
ended_events d t timed (one_refused w r) = refl

-- the events at the beginning are at the front, whichever processes resume, and where a condition is refused
pub goes_on_front : RunsAddEvents → (objects : Objects) (d : Digital) (t n : ℕ) (x : List ℤ) (timed : Bool) (w : World) (found : Result (List Bool) Refusal) → IsFront w.events (after_resumption objects d t n x timed w found).events
goes_on_front law objects d t n x timed w (Err r) = front_is w.events w.events refl
goes_on_front law objects d t n x timed w (Ok bs) =
    subst (IsFront w.events) (sym (ended_events d t timed (run_all (context_at objects t n x) 0 objects.processes d.processes bs w)))
    (law (context_at objects t n x) 0 objects.processes d.processes bs w)
