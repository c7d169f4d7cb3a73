use Rattle.std.proofs.Common.{◌≡◌, ◌≤◌, ◌++◌, List, [], length, ap, ◌∙◌, sym, arith}
use Rattle.sparse_row.specs.declared.entry.Entry.{Entry}
use Rattle.sparse_row.specs.Reads.{cut}
use Rattle.sparse_row.proofs.Sparse.{length_sparse}
use Rattle.sparse_row.proofs.Fronts.{cut-sparse}
use Rattle.sparse_row.proofs.Whole.{row_cut}
use Rattle.sparse_row.proofs.row.SparseRow.copy_front.Goals as goal

pub append_all-requires : goal.append_all-requires
append_all-requires c =
    let items = c.front-entries.ensures ∙ ap (cut c.self.inside.width) c.as_slice.ensures.value in
    let sparse = cut-sparse 0 c.other.inside.width c.self.inside.width c.other.inside.entries.items c.other.invariant.sparse in
    let few = length_sparse 0 c.self.inside.width (cut c.self.inside.width c.other.inside.entries.items) (omega arith) sparse in
    let long = ap length items in
    record { room = omega (arith, few, long, c.clear.ensures.len, c.clear.ensures.capacity, c.self.invariant.room) }

pub invariant_of-self : goal.invariant_of-self
invariant_of-self c =
    let items = c.append_all.ensures.items ∙ ap (λ (z : List Entry). z ++ c.front-entries.result.now) c.clear.ensures.items ∙ c.front-entries.ensures ∙ ap (cut c.self.inside.width) c.as_slice.ensures.value in
    record {
      sparse = rw items (cut-sparse 0 c.other.inside.width c.self.inside.width c.other.inside.entries.items c.other.invariant.sparse);
      room = omega (arith, c.append_all.ensures.room, c.clear.ensures.capacity, c.self.invariant.room);
    }

pub returns : goal.returns
returns c =
    let items = c.append_all.ensures.items ∙ ap (λ (z : List Entry). z ++ c.front-entries.result.now) c.clear.ensures.items ∙ c.front-entries.ensures ∙ ap (cut c.self.inside.width) c.as_slice.ensures.value in
    row_cut c.self.inside.width c.other.inside.width c.self.inside.entries.items c.other.inside.entries.items c.append_all.new.out.items c.args.self.now c.args.other.now c.self.view_is c.other.view_is c.requires c.other.invariant.sparse items
