use Rattle.std.proofs.Common.{◌≡◌, ◌++◌, ◌∙◌, Bool, Some, sym, ap, set}
use Rattle.std.specs.Prelude.{slice_get}
use Rattle.ams_value.specs.declared.val.Val.{Val}
use Rattle.step_data.specs.declared.event.Event.TheVariants.{Signal}
use Rattle.design_meaning.specs.Readings.{still}
use Rattle.cycle_meaning.specs.Cycles.{changed, event_if}
use Rattle.driving_values.specs.Driving.{seens}
use Rattle.driving_values.proofs.Changing.{on_ok, ok_so, both_set, is_event}
use Rattle.driving_values.proofs.change.Goals as goal

pub returns-clause-values : goal.returns-clause-values
returns-clause-values c =
    let before = c.args.signals.now in
    let after = c.set-changed.new.self in
    on_ok c.give.result ((v : Val) → slice_get before.values c.args.i ≡ Some v → seens after.values after.events ≡ set (seens before.values before.events) c.args.i (changed (still v) c.args.value))
    (λ v read. both_set before.values after.values before.events after.events c.args.i v c.args.value c.set-changed.result c.set-changed.ensures.changed c.set-changed.ensures.values c.set-changed.ensures.events c.requires.still read)

pub returns-clause-given : goal.returns-clause-given
returns-clause-given c =
    let before = c.args.signals.now in
    let told = λ (b : Bool). c.args.out.now ++ event_if b (Signal c.args.t c.args.n c.args.i c.args.value) in
    ok_so c.give.result (c.give.new.out ≡ told c.set-changed.result) ((v : Val) → slice_get before.values c.args.i ≡ Some v → c.give.new.out ≡ told (changed (still v) c.args.value).event)
    (λ is. λ v read. is ∙ ap told (sym (is_event before.values c.args.i v c.args.value c.set-changed.result c.set-changed.ensures.changed read))) c.give.ensures.ok
