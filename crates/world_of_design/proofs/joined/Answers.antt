use Rattle.std.proofs.Common.{◌≡◌, ◌∙◌, Bool, false, List, [], length, map, sym, ap}
use Rattle.std.specs.Prelude.{pos, replicate}
use Rattle.std.proofs.lemmas.List.{length-replicate, length-map}
use Rattle.ams_value.specs.declared.val.Val.{Val}
use Rattle.flat_design.specs.declared.objects.Signal.{Signal}
use Rattle.flat_design.specs.Order.{unknown_count}
use Rattle.step_data.specs.declared.trans.Trans.{Trans}
use Rattle.step_data.specs.declared.breaks.ThresholdState.{ThresholdState}
use Rattle.cycle_meaning.specs.World.{driven_of}
use Rattle.threshold_set.specs.Crossed.{silenced, off, sights_of}
use Rattle.driving_values.specs.Driving.{seens}
use Rattle.world_of_design.proofs.Known.{known}
use Rattle.world_of_design.proofs.First.{first_signals, first_thresholds, first_queues, off_silenced, first_is}
use Rattle.world_of_design.proofs.joined.Goals as goal

pub new-requires-clause-sound : goal.new-requires-clause-sound
new-requires-clause-sound c = record {
  driven_are = c.requires.numbers;
  as_many = ap length c.requires.drivers ∙ length-replicate (length c.args.numbers) [];
  known = known c.args.flat.now c.requires.design;
}

pub new-requires-clause-places : goal.new-requires-clause-places
new-requires-clause-places c =
    let objects = c.args.flat.now in
    let count : length c.args.thresholds.states ≡ length objects.thresholds = ap length c.requires.states ∙ length-map objects.thresholds off in
    record {
      signals = ap length c.requires.values ∙ length-map objects.signals (λ (s : Signal). s.initial);
      unknowns = ap length c.requires.point ∙ length-replicate (unknown_count objects) (pos 0);
      thresholds = ap (map silenced) c.requires.states ∙ off_silenced objects.thresholds;
      as_many = ap length c.requires.off ∙ length-replicate (length objects.thresholds) false ∙ sym count;
      few = rw count c.requires.design.numbers.thresholds;
    }

pub returns-clause-world : goal.returns-clause-world
returns-clause-world c =
    let objects = c.args.flat.now in
    let signals = ap (λ (l : List Val). seens l c.args.signals.events) c.requires.values
    ∙ ap (λ (l : List Bool). seens (map (λ (s : Signal). s.initial) objects.signals) l) c.requires.still ∙ first_signals objects.signals in
    let thresholds = ap (λ (l : List ThresholdState). sights_of l c.args.thresholds.events) c.requires.states
    ∙ ap (λ (l : List Bool). sights_of (map off objects.thresholds) l) c.requires.off ∙ first_thresholds objects.thresholds in
    let queues = c.requires.drivers ∙ ap (λ l. replicate {A = List Trans} (length l) []) c.requires.numbers ∙ first_queues (driven_of objects) in
    c.new.ensures.world ∙ first_is objects _ _ _ signals thresholds queues
