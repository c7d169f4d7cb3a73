use Rattle.std.proofs.Common.{◌<◌, length}
use Rattle.driver_set.specs.Numbers.{number_of}
use Rattle.kernel_world.specs.Acting.{context_of}
use Rattle.kernel_world.proofs.Driven.{has_driver}
use Rattle.kernel_world.proofs.effects.WorldEffects.assign.Goals as goal

pub number-number-requires : goal.number-number-requires
number-number-requires c =
    has_driver (context_of c.args.self.now) c.args.self.now.numbers c.args.self.now.drivers c.args.signal c.args.self.now.sound c.requires.driven

pub assign-requires-clause-within : goal.assign-requires-clause-within
assign-requires-clause-within c =
    let inside : number_of c.args.self.now.numbers c.args.signal < length c.args.self.now.numbers =
    has_driver (context_of c.args.self.now) c.args.self.now.numbers c.args.self.now.drivers c.args.signal c.args.self.now.sound c.requires.driven in
    rw (c.number-number.ensures, c.args.self.now.sound.as_many) inside
