use Rattle.std.proofs.Common.{rules, ◌≡◌, ap, ◌∙◌, sym}
use Rattle.std.proofs.lemmas.Slice.Eq.{slice_eq-Decides}
use Rattle.std.specs.Bool.{Decides}
use Rattle.sparse_row.specs.declared.entry.Entry.{Entry}
use Rattle.sparse_row.specs.contracts.entry.EntryPartialEq.TheImpl as derived
use Rattle.sparse_row.specs.Reads.{cut}
use Rattle.sparse_row.proofs.Fronts.{begins_means}
use Rattle.sparse_row.proofs.row.SparseRow.begins.Goals as goal

entries_decide : (a b : Entry) → Decides (derived.eq-value.it a b) (a ≡ b)
entries_decide a b = search rules

pub returns : goal.returns
returns c =
    let d = slice_eq-Decides entries_decide c.as_slice.result.now c.front.result.now c.eq.result c.eq.ensures in
    let front = c.front.ensures ∙ ap (cut c.self.inside.width) c.as_slice-2.ensures.value in
    let m = begins_means c.self.inside.width c.other.inside.width c.self.inside.entries.items c.other.inside.entries.items c.args.self.now c.args.other.now c.self.view_is c.other.view_is c.requires c.self.invariant.sparse c.other.invariant.sparse in
    (λ h. m.0 (sym c.as_slice.ensures.value ∙ d.0 h ∙ front), λ h. d.1 (c.as_slice.ensures.value ∙ m.1 h ∙ sym front))
