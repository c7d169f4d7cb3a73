-- The world at the beginning of a cycle.
use Rattle.std.specs.Prelude.{◌≡◌, ℕ, Bool, false, ℤ, List, [], map, ◌++◌}
use Rattle.step_data.specs.declared.event.Event.{Event}
use Rattle.step_model.specs.System.{Digital}
use Rattle.design_meaning.specs.Readings.{Seen}
use Rattle.cycle_meaning.specs.World.{World as CycleWorld}
use Rattle.cycle_meaning.specs.Cycles.{kept_in, domain_in}
use Rattle.kernel_world.specs.Reading.{domain_value}
use Rattle.kernel_world.specs.Acting.{context_of, world_of}
use Rattle.kernel_world.specs.declared.world.World.{World}

-- a cycle left this world, and this state is what is kept of it
pub record IsLeft (d : Digital) (w : CycleWorld) : Type 0 where
  pub kept : d.kept ≡ kept_in w
  pub signals : d.signals ≡ map (λ (s : Seen). s.value) w.signals
  pub timed : domain_value d.timed ≡ w.domain.value
  pub queues : d.queues ≡ w.queues

-- the world with earlier events in front
abbrev pub behind : List Event → CycleWorld → CycleWorld
behind events w = record w { events = events ++ w.events }

-- the moment of a cycle and its unknowns were taken over
pub record IsEntered (old now : World) (t n : ℕ) (x : List ℤ) (to_time : Bool) : Type 0 where
  pub context : context_of now ≡ record (context_of old) { t = t; n = n; x = x }
  pub world : world_of now ≡ record (world_of old) { domain = domain_in old.timed to_time; elements = []; broke = false }
