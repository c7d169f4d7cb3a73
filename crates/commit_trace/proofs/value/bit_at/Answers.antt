use Rattle.commit_trace.proofs.BitLemmas.{no_bit_past}
use Rattle.commit_trace.proofs.value.bit_at.Goals as goal

pub returns-else-place-lt-MOST_ELEMENTS : goal.returns-else-place-lt-MOST_ELEMENTS
returns-else-place-lt-MOST_ELEMENTS c = no_bit_past c.args.content c.args.place c.ranges.content.fits c.if-place-lt-MOST_ELEMENTS.false
