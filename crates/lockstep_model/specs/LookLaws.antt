-- Each attempt of a run is looked for exactly once, and how many moves there are at most.
use Rattle.std.specs.Prelude.{◌≡◌, ℕ, ◌+◌, ◌*◌, ◌&&◌, ◌||◌, Bool, true, false, not, cond, List, [], ◌∷◌, refl}
use Rattle.std.proofs.Common.{arith}
use Rattle.step_data.specs.declared.tip.Tip.{Tip}
use Rattle.step_data.specs.Steps.{next, is_failed}
use Rattle.step_model.specs.System.{System}
use Rattle.lockstep_model.specs.declared.moves.Ask.TheVariants as asks
use Rattle.lockstep_model.specs.declared.moves.Moved.TheVariants as says
use Rattle.lockstep_model.specs.Works.{Work, WorkKind, Worked, Tried, attempts_in, starts_in, cycles_in, solutions_in, side_steps_in, probes_in, starts_at, cycles_at, solutions_at, side_steps_at, probes_at}
use Rattle.lockstep_model.specs.Works as kinds
use Rattle.lockstep_model.specs.Lockstep.{lockstep}
use Rattle.lockstep_model.specs.Budgets.{lockstep_within}
use Rattle.lockstep_model.specs.Walk.{Walk, Move, Awaited, Ready, Looking, Settling, Broken, Reply, NoReply, Here, Nothing, Consumed, LooksAhead, StartsTried, Looks, looks_said, unlooked, walk_after, looks_over, first_walk, proceed, proceed_to, own_first, found_first, led_by, after_consume, was_consumed, has_none, moved_at, moved, weight, moves_left}
use Rattle.lockstep_model.specs.WalkLaws.{moved_keeps, looks_ahead}

-- a move that does the next work looks for as many as there are
abbrev LooksFrom : List Work → Move → Type 0
LooksFrom works m = looks_said m.says + unlooked m.walk ≡ attempts_in works

proceed_to-looks : (works : List Work) (w : Walk) → LooksFrom works (proceed_to works (record w { works = works }))
proceed_to-looks [] w = refl
proceed_to-looks (Worked kind events false standing ∷ works) w = omega arith
proceed_to-looks (Worked kind events true standing ∷ works) w = omega arith
proceed_to-looks (Tried tip frame until made crossing events ∷ works) w = omega arith

own_first-looks : (works : List Work) (w : Walk) → StartsTried works → Looks (record w { works = works; awaited = Looking }) (own_first works (record w { works = works; awaited = Looking }))
own_first-looks [] w h = absurd h
own_first-looks (Worked kind events renews standing ∷ works) w h = absurd h
own_first-looks (Tried tip frame until made true events ∷ works) w h = omega arith
own_first-looks (Tried tip frame until made false events ∷ works) w h = omega arith

found_first-looks : (works : List Work) (w : Walk) → StartsTried works → Looks (record w { works = works; awaited = Looking }) (found_first works (record w { works = works; awaited = Looking }))
found_first-looks [] w h = absurd h
found_first-looks (Worked kind events renews standing ∷ works) w h = absurd h
found_first-looks (Tried tip frame until made crossing events ∷ works) w h =
    let old : Walk = record w { works = Tried tip frame until made crossing events ∷ works; awaited = Looking } in
    elim (crossing || is_failed made.kind) as
    (λ b. Looks old (cond b (led_by events (proceed (record old { works = works }))) (record { walk = record old { works = works; awaited = Settling false (next w.tip made) }; says = says.Ask asks.Consume; events = events; computed = 0 }))) [
      | true ↦ proceed_to-looks works (record old { works = works })
      | false ↦ omega arith
    ]

after_consume-looks : (own : Bool) (after : Tip) (consumed : Bool) (w : Walk) → Looks (record w { awaited = Settling own after }) (after_consume own after consumed (record w { awaited = Settling own after }))
after_consume-looks own after consumed w =
    let old : Walk = record w { awaited = Settling own after } in
    elim (own && (not consumed && not (has_none w.works))) as
    (λ b. Looks old (cond b (record { walk = record old { awaited = Ready; tip = after }; says = says.Ask asks.Begin; events = []; computed = 0 }) (proceed (record old { awaited = Ready; tip = after })))) [
      | true ↦ omega arith
      | false ↦ proceed_to-looks w.works (record w { awaited = Ready; tip = after })
    ]

moved_at-looks : (awaited : Awaited) (reply : Reply) (w : Walk) → LooksAhead awaited w.works → Looks (record w { awaited = awaited }) (moved_at awaited reply (record w { awaited = awaited }))
moved_at-looks Ready reply w h = proceed_to-looks w.works (record w { awaited = Ready })
moved_at-looks Looking NoReply w h = own_first-looks w.works w h
moved_at-looks Looking (Here a) w h = found_first-looks w.works w h
moved_at-looks Looking Nothing w h = own_first-looks w.works w h
moved_at-looks Looking (Consumed b) w h = own_first-looks w.works w h
moved_at-looks (Settling own after) reply w h = after_consume-looks own after (was_consumed reply) w
moved_at-looks Broken reply w h = proceed_to-looks w.works (record w { awaited = Broken })

pub moved_looks : (w : Walk) (reply : Reply) → LooksAhead w.awaited w.works → Looks w (moved w reply)
moved_looks w reply h = moved_at-looks w.awaited reply w h

-- over any moves the looks that were asked for and the attempts that are still to be looked for are all of them
pub moves_look : (replies : List Reply) (w : Walk) → LooksAhead w.awaited w.works → looks_over replies w + unlooked (walk_after replies w) ≡ unlooked w
moves_look [] w h = omega arith
moves_look (reply ∷ replies) w h =
    let m : Move = moved w reply in
    let one = moved_looks w reply h in
    let rest = moves_look replies m.walk (looks_ahead m.walk m.says (moved_keeps w reply).awaits) in
    omega arith

pub runs_look : (sys : System) (replies : List Reply) → looks_over replies (first_walk sys) + unlooked (walk_after replies (first_walk sys)) ≡ attempts_in (lockstep sys).works
runs_look sys replies = moves_look replies (first_walk sys) tt

-- what a work weighs
kind-weight : (kind : WorkKind) → starts_at kind + cycles_at kind + solutions_at kind + side_steps_at kind + probes_at kind ≡ 1
kind-weight kinds.Start = refl
kind-weight kinds.Solve = refl
kind-weight kinds.Cycle = refl
kind-weight kinds.Side = refl
kind-weight kinds.Probe = refl

pub weight_is : (works : List Work) → weight works ≡ starts_in works + cycles_in works + solutions_in works + side_steps_in works + probes_in works + 3 * attempts_in works
weight_is [] = refl
weight_is (Worked kind events renews standing ∷ works) =
    let one = kind-weight kind in
    let rest = weight_is works in
    omega arith
weight_is (Tried tip frame until made crossing events ∷ works) =
    let rest = weight_is works in
    omega arith

-- the most moves of a whole run
abbrev pub most_moves : List Work → ℕ
most_moves works =
    2 + cycles_in works + solutions_in works + side_steps_in works + probes_in works + 3 * attempts_in works

pub moves_of_run : (sys : System) → moves_left (first_walk sys) ≡ most_moves (lockstep sys).works
moves_of_run sys =
    let all = weight_is (lockstep sys).works in
    let one = (lockstep_within sys).starts in
    omega arith
