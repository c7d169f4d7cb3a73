use Rattle.std.proofs.Common.{◌≡◌, drop}
use Rattle.elab_meaning.specs.Parts.{both}
use Rattle.unit_meaning.specs.Settings.{listed}
use Rattle.unit_meaning.specs.Bare as spec
use Rattle.statement_parts.specs.Lists.{joined}
use Rattle.bare_types.proofs.watched.watched_signals.Given as goal

abbrev pub invariant-loop-name : goal.invariant-loop-name
invariant-loop-name l =
    let rest = listed (spec.watched_signal l.setting l.scope) (drop l.name-index l.names) l.notes in
    let whole = listed (spec.watched_signal l.setting l.scope) l.names l.fn.notes in
    record {
      notes : rest.0 ≡ whole.0;
      told : both joined l.all rest.1 ≡ whole.1;
    }
