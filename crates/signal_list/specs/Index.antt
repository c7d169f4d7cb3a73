-- Which signals stand in an index.
use Rattle.std.specs.Prelude.{◌≡◌, nat_eq, Bool, List}
use Rattle.std.specs.List.{list_any}
use Rattle.flat_expr.specs.declared.expr.SignalName.{SignalName}
use Rattle.flat_expr.specs.declared.expr.SignalName.TheVariants as signal
use Rattle.flat_expr.specs.Expr.{same_signal}
use Rattle.signal_list.specs.declared.index.SignalIndex.{SignalIndex}

abbrev pub holds : SignalIndex → SignalName → Bool
holds x (signal.Signal i) = list_any (nat_eq i) x.signals.keys
holds x (signal.Threshold i) = list_any (nat_eq i) x.thresholds.keys
holds x signal.Domain = x.has_domain

-- the index has the signals of the list
pub record IsIndexOf (all : List SignalName) (x : SignalIndex) : Type 0 where
  pub same : (s : SignalName) → holds x s ≡ list_any (same_signal s) all
