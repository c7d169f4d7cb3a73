-- The engine's steps to the end are those of the definition.
use Rattle.std.proofs.Common.{◌≡◌, ℕ, zero, suc, ◌<◌, List, [], ◌∷◌, ◌++◌, replicate, Option, Some, None, refl, sym, ap, subst, ◌∙◌, arith}
use Rattle.step_data.specs.declared.outcome.End.{End}
use Rattle.step_model.specs.System.{System}
use Rattle.lockstep_model.specs.declared.moves.Moved.TheVariants as says
use Rattle.lockstep_model.specs.Lockstep.{lockstep}
use Rattle.lockstep_model.specs.LookLaws.{most_moves, moves_of_run}
use Rattle.lockstep_model.specs.Walk.{moved, moves_left, first_walk}
use Rattle.step_schedule.specs.declared.Step.{Step}
use Rattle.step_schedule.specs.declared.Step.TheVariants.{D}
use Rattle.core_steps.specs.States.{State, first_state, stepped, stepped_by, stepped_all, said, said_by, end_said}
use Rattle.core_steps.specs.Ending.{Nears}
use Rattle.replay_model.specs.Replays.{IsEnough, steps_to_end, replayed}

-- steps of the engine alone
abbrev pub engine_steps : ℕ → List Step
engine_steps n = replicate n D

pub steps_join : (sys : System) (a b : List Step) (s : State) → stepped_all sys (a ++ b) s ≡ stepped_all sys b (stepped_all sys a s)
steps_join sys [] b s = refl
steps_join sys (step ∷ a) b s = steps_join sys a b (stepped sys step s)

-- where the end was told nothing changes any more
stays : (sys : System) (step : Step) (s : State) (e : End) → s.ended ≡ Some e → stepped sys step s ≡ s
stays sys step s e h = ap (λ (o : Option End). stepped_by o sys step s) h

pub all_stay : (sys : System) (n : ℕ) (s : State) (e : End) → s.ended ≡ Some e → stepped_all sys (engine_steps n) s ≡ s
all_stay sys zero s e h = refl
all_stay sys (suc n) s e h = ap (λ (t : State). stepped_all sys (engine_steps n) t) (stays sys D s e h) ∙ all_stay sys n s e h

said_ended : (ended : Option End) (s : State) (e : End) → said_by ended D s ≡ says.Ended e → ended ≡ None → end_said (moved s.led.walk s.led.reply).says ≡ Some e
said_ended None s e h none = ap end_said h
said_ended (Some f) s e h none = cc

-- a step of the engine that tells the end leaves it told
told_by : (sys : System) (ended : Option End) (s : State) (e : End) → s.ended ≡ ended → said_by ended D s ≡ says.Ended e → (stepped_by ended sys D s).ended ≡ Some e
told_by sys None s e is h = ap end_said h
told_by sys (Some f) s e is h = is ∙ ap end_said h

pub told : (sys : System) (s t : State) (e : End) → t ≡ stepped sys D s → says.Ended e ≡ said D s → t.ended ≡ Some e
told sys s t e is h = ap (λ (x : State). x.ended) is ∙ told_by sys s.ended s e refl (sym h)

-- behind some of so many steps of the engine, these are left
pub record Leads (sys : System) (n left : ℕ) (from now : State) : Type 0 where
  pub same : stepped_all sys (engine_steps left) now ≡ stepped_all sys (engine_steps n) from
  pub enough : IsEnough left now

pub leads_start : (sys : System) (n : ℕ) (s : State) → IsEnough n s → Leads sys n n s s
leads_start sys n s h = record { same = refl; enough = h }

-- one step less, unless none is left
abbrev pub less : ℕ → ℕ
less zero = zero
less (suc n) = n

enough_behind : (left : ℕ) (now next : State) → IsEnough (suc left) now → Nears 1 now next → IsEnough left next
enough_behind left now next enough near none =
    let before = near.went none in
    let had = enough before in
    let nearer = near.nearer none in
    (near.goes none had.0, omega arith)

none_or : (sys : System) (ended : Option End) (s t : State) → s.ended ≡ ended → IsEnough zero s → t ≡ stepped sys D s → t ≡ s
none_or sys None s t is enough next = let h = enough is in let few = h.1 in let some = h.0 in absurd (omega arith)
none_or sys (Some e) s t is enough next = next ∙ stays sys D s e is

pub leads_on : (sys : System) (n left : ℕ) (from now next : State) → Leads sys n left from now → next ≡ stepped sys D now → Nears 1 now next → Leads sys n (less left) from next
leads_on sys n zero from now next l is near =
    let same : next ≡ now = none_or sys now.ended now next refl l.enough is in
    subst (λ (s : State). Leads sys n zero from s) (sym same) l
leads_on sys n (suc left) from now next l is near =
    record {
      same = ap (λ (s : State). stepped_all sys (engine_steps left) s) is ∙ l.same;
      enough = enough_behind left now next l.enough near;
    }

-- at the end nothing is left to change
pub leads_end : (sys : System) (n left : ℕ) (from now : State) (e : End) → Leads sys n left from now → now.ended ≡ Some e → now ≡ stepped_all sys (engine_steps n) from
leads_end sys n left from now e l h = sym (all_stay sys left now e h) ∙ l.same

-- fewer steps than these
pub nears_less : (n : ℕ) (a b c : State) → Nears 0 a b → Nears n b c → Nears 0 a c
nears_less n a b c f g =
    record {
      went = λ e. f.went (g.went e);
      nearer = λ e. let one = f.nearer (g.went e) in let two = g.nearer e in omega arith;
      goes = λ e h. g.goes e (f.goes (g.went e) h);
    }

-- the steps of the first state to the end are enough behind each schedule
pub enough_first : (sys : System) (s t : State) → s ≡ first_state sys → Nears 0 s t → IsEnough (steps_to_end sys) t
enough_first sys s t fresh near none =
    let left : moves_left s.led.walk ≡ moves_left (first_walk sys) = ap (λ (x : State). moves_left x.led.walk) fresh in
    let some : 0 < moves_left (first_walk sys) = omega arith in
    let most : moves_left (first_walk sys) ≡ most_moves (lockstep sys).works = moves_of_run sys in
    let nearer = near.nearer none in
    let goes = near.goes none (omega arith) in
    (goes, omega arith)

-- the whole replay
pub replay_is : (sys : System) (schedule : List Step) (s mid now : State) → s ≡ first_state sys → mid ≡ stepped_all sys schedule s → now ≡ stepped_all sys (engine_steps (steps_to_end sys)) mid → now ≡ replayed sys schedule
unfolding replayed
replay_is sys schedule s mid now fresh first rest =
    rest ∙ ap (λ (t : State). stepped_all sys (engine_steps (steps_to_end sys)) t) (first ∙ ap (λ (t : State). stepped_all sys schedule t) fresh)
    ∙ sym (steps_join sys schedule (engine_steps (steps_to_end sys)) (first_state sys))
