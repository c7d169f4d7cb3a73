use Rattle.case_types.proofs.Vectors.{too_many}
use Rattle.case_types.proofs.covering.all_vectors.Goals as goal

pub returns-else-length-lt64 : goal.returns-else-length-lt64
returns-else-length-lt64 c = too_many c.args.length c.args.count c.if-length-lt64.false c.ranges.count.fits
