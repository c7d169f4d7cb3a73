use Rattle.std.proofs.Common.{◌≡◌, drop}
use Rattle.elab_meaning.specs.Parts.{both}
use Rattle.unit_meaning.specs.Settings.{listed}
use Rattle.unit_meaning.specs.Waveforms as spec
use Rattle.statement_parts.specs.Lists.{joined}
use Rattle.statement_parts.proofs.waveforms.waveform.Given as goal

abbrev pub invariant-loop-written : goal.invariant-loop-written
invariant-loop-written l =
    let rest = listed (spec.element l.setting l.scope l.to) (drop l.written-index l.elements) l.notes in
    let whole = listed (spec.element l.setting l.scope l.to) l.elements l.fn.notes in
    record {
      notes : rest.0 ≡ whole.0;
      told : both joined l.all rest.1 ≡ whole.1;
    }
