use Rattle.std.specs.Prelude.{refl}
use Rattle.mixed_cycle.specs.First.{begun}
use Rattle.mixed_cycle.proofs.machine.Machine.supplied.Goals as goal

pub returns : goal.returns
returns g c =
    let s = c.requires.supplies in
    let r = s.room in
    begun (g.D.Design.system 0) g.S.Stepper.part g.S.Stepper.count g.K.Kernel.state _
    (record {
      part_is = c.requires.part;
      kernel = c.requires.stage;
      options = c.requires.options;
      allowed = c.requires.allowed;
      deltas = c.requires.deltas;
      choices = c.requires.choices;
      cycles = c.requires.cycles;
      tries = c.requires.tries;
      place = s.place;
      initial = s.initial;
      frame = s.frame;
      frame_fits = s.frame_fits;
      room = record { asked = r.asked; frame = s.frame_length; made = r.made; x = r.x; branches = r.branches; new_frame = r.new_frame };
      awaits = refl;
      own = refl;
      none = refl;
    })
