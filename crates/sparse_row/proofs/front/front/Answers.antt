use Rattle.std.proofs.Common.{length, take, arith}
use Rattle.std.proofs.lemmas.List.{length-take}
use Rattle.sparse_row.specs.Entries.{place_in}
use Rattle.sparse_row.proofs.Edits.{place-le}
use Rattle.sparse_row.proofs.Fronts.{cut_is}
use Rattle.sparse_row.proofs.front.front.Goals as goal

pub slice_bounds-result-end : goal.slice_bounds-result-end
slice_bounds-result-end c =
    let place = place-le c.args.column c.args.entries.now in
    omega (arith, c.place_of.ensures, place, length-take c.place_of.result c.args.entries.now)

pub returns : goal.returns
returns c = rw c.place_of.ensures (cut_is c.args.column c.args.entries.now)
