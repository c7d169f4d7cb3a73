use Rattle.std.proofs.Common.{◌≡◌, [], get_or, set, ap, ◌∙◌}
use Rattle.std.proofs.lemmas.List.{get_or-set_same, set-set}
use Rattle.fix_core.specs.Units.{one}
use Rattle.flat_expr.specs.declared.expr.Unknown.TheVariants.{Quantity, Dot}
use Rattle.flat_design.specs.Order.{number_of}
use Rattle.augmentation_rows.proofs.slopes.write_two.Goals as goal

pub returns-clause-written : goal.returns-clause-written
returns-clause-written c =
    let rows = c.args.rows.now in
    let row = c.args.row in
    let a = number_of c.args.flat.now (Quantity c.args.quantity) in
    let b = number_of c.args.flat.now (Dot c.args.dot) in
    let line = set (get_or rows row []) a one in
    let first : c.set.new.self ≡ set rows row line =
    c.set.ensures ∙ ap (λ k. set rows row (set (get_or rows row []) k c.one.result)) c.number_of.ensures ∙ ap (λ z. set rows row (set (get_or rows row []) a z)) c.one.ensures in
    c.set-2.ensures
    ∙ ap (λ k. set c.set.new.self row (set (get_or c.set.new.self row []) k c.args.slope)) c.number_of-2.ensures
    ∙ ap (λ r. set r row (set (get_or r row []) b c.args.slope)) first
    ∙ ap (λ l. set (set rows row line) row (set l b c.args.slope)) (get_or-set_same rows row line [] c.requires.row)
    ∙ set-set rows row line (set line b c.args.slope)
