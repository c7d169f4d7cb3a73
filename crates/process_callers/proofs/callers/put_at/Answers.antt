use Rattle.std.proofs.Common.{length, sym, arith}
use Rattle.process_callers.specs.Callers.{items_of}
use Rattle.process_callers.proofs.Putting.{put_nowhere, put_in_items, length_items}
use Rattle.process_callers.proofs.callers.put_at.Goals as goal

pub returns-in_ok-put_once : goal.returns-in_ok-put_once
returns-in_ok-put_once c = λ count lt.
    put_in_items count c.args.process c.args.place c.args.lists.now.items c.index_mut.result.now c.put_once.new.list lt (omega arith) c.index_mut.ensures.value c.in_ok-put_once.ensures

pub returns-else-place-len : goal.returns-else-place-len
returns-else-place-len c = λ count lt.
    put_nowhere count c.args.process c.args.place (items_of c.args.lists.now.items) lt (let e = length_items c.args.lists.now.items in omega (arith, e))
