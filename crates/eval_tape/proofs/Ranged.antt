-- Numbers in their range.
use Rattle.fix_core.specs.Laws.{ranged-fits}

pub ruleset numbers = (ranged-fits)
