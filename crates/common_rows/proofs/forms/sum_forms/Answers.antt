use Rattle.std.proofs.Common.{◌++◌, ◌∷◌, [], sym, ap, ◌∙◌, arith}
use Rattle.std.proofs.lemmas.List.FromFn.{map-range_with_len_more}
use Rattle.design_meaning.specs.Equations.{ends_from}
use Rattle.common_rows.specs.declared.forms.CommonForm.TheVariants.{Sum}
use Rattle.common_rows.specs.Forms.{sum_forms}
use Rattle.common_rows.proofs.forms.sum_forms.Goals as goal

pub loop-node-preserved : goal.loop-node-preserved
loop-node-preserved c =
    let qs = c.args.quantities.now in
    let node = c.loop-node.node in
    c.in_ok-push.ensures.ok
    ∙ ap (λ l. l ++ Sum c.in_ok-ends.ends ∷ []) c.loop-node.invariant
    ∙ ap (λ e. sum_forms qs node ++ Sum e ∷ []) c.in_ok-ends.ensures
    ∙ sym (map-range_with_len_more (λ n. Sum (ends_from n 0 qs)) 0 node node (omega arith))
