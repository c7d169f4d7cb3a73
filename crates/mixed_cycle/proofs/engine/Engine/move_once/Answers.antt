use Rattle.std.specs.Prelude.{Ok, Err}
use Rattle.std.proofs.Common.{sym}
use Rattle.lockstep_model.specs.Walk.{reply_of}
use Rattle.mixed_cycle.specs.Running.{follows_from}
use Rattle.mixed_cycle.proofs.engine.Engine.move_once.Goals as goal

pub returns-in-Ok-clause-walk : goal.returns-in-Ok-clause-walk
returns-in-Ok-clause-walk g c =
    (follows_from (g.D.Design.system 0) g.S.Stepper.part g.S.Stepper.count g.K.Kernel.state c.self.inside.machine c.move_by.new.self c.args.self.now (reply_of c.args.answer.now) c.args.out.now c.move_by.new.out (Ok c.in-Ok.said) (sym c.self.view_is) c.self.invariant.ahead c.in-Ok.ensures.alive c.requires.fits c.in-Ok.ensures.performs).walk

pub returns-in-Ok-clause-says : goal.returns-in-Ok-clause-says
returns-in-Ok-clause-says g c =
    (follows_from (g.D.Design.system 0) g.S.Stepper.part g.S.Stepper.count g.K.Kernel.state c.self.inside.machine c.move_by.new.self c.args.self.now (reply_of c.args.answer.now) c.args.out.now c.move_by.new.out (Ok c.in-Ok.said) (sym c.self.view_is) c.self.invariant.ahead c.in-Ok.ensures.alive c.requires.fits c.in-Ok.ensures.performs).says_is

pub returns-in-Ok-clause-events : goal.returns-in-Ok-clause-events
returns-in-Ok-clause-events g c =
    (follows_from (g.D.Design.system 0) g.S.Stepper.part g.S.Stepper.count g.K.Kernel.state c.self.inside.machine c.move_by.new.self c.args.self.now (reply_of c.args.answer.now) c.args.out.now c.move_by.new.out (Ok c.in-Ok.said) (sym c.self.view_is) c.self.invariant.ahead c.in-Ok.ensures.alive c.requires.fits c.in-Ok.ensures.performs).events

pub returns-in-Ok-clause-count : goal.returns-in-Ok-clause-count
returns-in-Ok-clause-count g c =
    (follows_from (g.D.Design.system 0) g.S.Stepper.part g.S.Stepper.count g.K.Kernel.state c.self.inside.machine c.move_by.new.self c.args.self.now (reply_of c.args.answer.now) c.args.out.now c.move_by.new.out (Ok c.in-Ok.said) (sym c.self.view_is) c.self.invariant.ahead c.in-Ok.ensures.alive c.requires.fits c.in-Ok.ensures.performs).count_is

pub returns-in-Ok-clause-rest : goal.returns-in-Ok-clause-rest
returns-in-Ok-clause-rest g c =
    (follows_from (g.D.Design.system 0) g.S.Stepper.part g.S.Stepper.count g.K.Kernel.state c.self.inside.machine c.move_by.new.self c.args.self.now (reply_of c.args.answer.now) c.args.out.now c.move_by.new.out (Ok c.in-Ok.said) (sym c.self.view_is) c.self.invariant.ahead c.in-Ok.ensures.alive c.requires.fits c.in-Ok.ensures.performs).rest

pub returns-in-Ok-clause-end : goal.returns-in-Ok-clause-end
returns-in-Ok-clause-end g c =
    (follows_from (g.D.Design.system 0) g.S.Stepper.part g.S.Stepper.count g.K.Kernel.state c.self.inside.machine c.move_by.new.self c.args.self.now (reply_of c.args.answer.now) c.args.out.now c.move_by.new.out (Ok c.in-Ok.said) (sym c.self.view_is) c.self.invariant.ahead c.in-Ok.ensures.alive c.requires.fits c.in-Ok.ensures.performs).end

pub returns-in-Ok-clause-ended : goal.returns-in-Ok-clause-ended
returns-in-Ok-clause-ended g c =
    (follows_from (g.D.Design.system 0) g.S.Stepper.part g.S.Stepper.count g.K.Kernel.state c.self.inside.machine c.move_by.new.self c.args.self.now (reply_of c.args.answer.now) c.args.out.now c.move_by.new.out (Ok c.in-Ok.said) (sym c.self.view_is) c.self.invariant.ahead c.in-Ok.ensures.alive c.requires.fits c.in-Ok.ensures.performs).ended

pub returns-in-Ok-clause-awaits : goal.returns-in-Ok-clause-awaits
returns-in-Ok-clause-awaits g c =
    (follows_from (g.D.Design.system 0) g.S.Stepper.part g.S.Stepper.count g.K.Kernel.state c.self.inside.machine c.move_by.new.self c.args.self.now (reply_of c.args.answer.now) c.args.out.now c.move_by.new.out (Ok c.in-Ok.said) (sym c.self.view_is) c.self.invariant.ahead c.in-Ok.ensures.alive c.requires.fits c.in-Ok.ensures.performs).awaits

pub returns-in-Ok-clause-again : goal.returns-in-Ok-clause-again
returns-in-Ok-clause-again g c =
    (follows_from (g.D.Design.system 0) g.S.Stepper.part g.S.Stepper.count g.K.Kernel.state c.self.inside.machine c.move_by.new.self c.args.self.now (reply_of c.args.answer.now) c.args.out.now c.move_by.new.out (Ok c.in-Ok.said) (sym c.self.view_is) c.self.invariant.ahead c.in-Ok.ensures.alive c.requires.fits c.in-Ok.ensures.performs).again

pub returns-in-Ok-clause-spends : goal.returns-in-Ok-clause-spends
returns-in-Ok-clause-spends g c =
    (follows_from (g.D.Design.system 0) g.S.Stepper.part g.S.Stepper.count g.K.Kernel.state c.self.inside.machine c.move_by.new.self c.args.self.now (reply_of c.args.answer.now) c.args.out.now c.move_by.new.out (Ok c.in-Ok.said) (sym c.self.view_is) c.self.invariant.ahead c.in-Ok.ensures.alive c.requires.fits c.in-Ok.ensures.performs).spends

pub returns-in-Ok-clause-owns : goal.returns-in-Ok-clause-owns
returns-in-Ok-clause-owns g c =
    (follows_from (g.D.Design.system 0) g.S.Stepper.part g.S.Stepper.count g.K.Kernel.state c.self.inside.machine c.move_by.new.self c.args.self.now (reply_of c.args.answer.now) c.args.out.now c.move_by.new.out (Ok c.in-Ok.said) (sym c.self.view_is) c.self.invariant.ahead c.in-Ok.ensures.alive c.requires.fits c.in-Ok.ensures.performs).owns

pub returns-in-Ok-clause-begins : goal.returns-in-Ok-clause-begins
returns-in-Ok-clause-begins g c =
    (follows_from (g.D.Design.system 0) g.S.Stepper.part g.S.Stepper.count g.K.Kernel.state c.self.inside.machine c.move_by.new.self c.args.self.now (reply_of c.args.answer.now) c.args.out.now c.move_by.new.out (Ok c.in-Ok.said) (sym c.self.view_is) c.self.invariant.ahead c.in-Ok.ensures.alive c.requires.fits c.in-Ok.ensures.performs).begins

pub returns-in-Ok-clause-falls : goal.returns-in-Ok-clause-falls
returns-in-Ok-clause-falls g c =
    (follows_from (g.D.Design.system 0) g.S.Stepper.part g.S.Stepper.count g.K.Kernel.state c.self.inside.machine c.move_by.new.self c.args.self.now (reply_of c.args.answer.now) c.args.out.now c.move_by.new.out (Ok c.in-Ok.said) (sym c.self.view_is) c.self.invariant.ahead c.in-Ok.ensures.alive c.requires.fits c.in-Ok.ensures.performs).falls

pub returns-in-Err-clause-front : goal.returns-in-Err-clause-front
returns-in-Err-clause-front g c =
    (follows_from (g.D.Design.system 0) g.S.Stepper.part g.S.Stepper.count g.K.Kernel.state c.self.inside.machine c.move_by.new.self c.args.self.now (reply_of c.args.answer.now) c.args.out.now c.move_by.new.out (Err c.in-Err.fault) (sym c.self.view_is) c.self.invariant.ahead tt c.requires.fits c.in-Err.ensures.performs).front
