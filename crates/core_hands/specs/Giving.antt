-- The events of a move are a front of those that were to come.
use Rattle.std.specs.Prelude.{◌≡◌, List, ◌++◌}
use Rattle.std.proofs.Common.{ap, ◌∙◌}
use Rattle.step_data.specs.declared.event.Event.{Event}
use Rattle.lockstep_model.specs.Walk.{Walk, Reply, moved}
use Rattle.lockstep_model.specs.WalkLaws.{moved_keeps}
use Rattle.lockstep_model.specs.Works.{events_of}
use Rattle.run_place.specs.Giving.{Gave}

pub gave_moved : (y y' : Walk) (reply : Reply) (out out' : List Event) → out' ≡ out ++ (moved y reply).events → y' ≡ (moved y reply).walk → Gave out out' (events_of y.works) (events_of y'.works)
gave_moved y y' reply out out' events walk =
    record {
      front = (moved y reply).events;
      new_is = events;
      whole_is = ap (λ (x : Walk). (moved y reply).events ++ events_of x.works) walk ∙ (moved_keeps y reply).events;
    }
