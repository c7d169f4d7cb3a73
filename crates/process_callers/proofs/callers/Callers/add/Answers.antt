use Rattle.std.proofs.Common.{◌∷◌, [], sym, subst}
use Rattle.std.proofs.lemmas.Result.{on_ok_weaker}
use Rattle.flat_expr.specs.declared.expr.SignalName.{SignalName}
use Rattle.process_callers.specs.Callers.{items_of}
use Rattle.process_callers.specs.Growing.{Grows}
use Rattle.process_callers.proofs.Putting.{grows_signal, grows_threshold, grows_domain}
use Rattle.process_callers.proofs.callers.Callers.add.Goals as goal

pub returns-in-Signal : goal.returns-in-Signal
returns-in-Signal c =
    on_ok_weaker c.put_at.result (λ d. λ count lt. rw (← c.self.view_is, c.in-Signal.is) (grows_signal count c.args.process c.in-Signal.i _ (items_of c.put_at.new.lists.items) lt (d count lt))) c.put_at.ensures

pub returns-in-Threshold : goal.returns-in-Threshold
returns-in-Threshold c =
    on_ok_weaker c.put_at-in-Threshold.result (λ d. λ count lt. rw (← c.self.view_is, c.in-Threshold.is) (grows_threshold count c.args.process c.in-Threshold.k _ (items_of c.put_at-in-Threshold.new.lists.items) lt (d count lt))) c.put_at-in-Threshold.ensures

pub returns-in-Domain : goal.returns-in-Domain
returns-in-Domain c =
    on_ok_weaker c.put_once.result (λ d. λ count lt. rw (← c.self.view_is, c.in-Domain.is) (grows_domain count c.args.process _ c.put_once.new.list.items lt d)) c.put_once.ensures
