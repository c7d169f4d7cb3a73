use Rattle.unit_index.specs.Index.{known}
use Rattle.unit_bodies.proofs.Bodies.{from_both, setting_is, body_is}
use Rattle.unit_bodies.proofs.architectures.judge_body.Goals as goal

pub returns : goal.returns
returns c =
    let setting =
    setting_is c.args.names.now c.args.book.now c.args.architecture.now c.new-setting.result c.as_slice-enumerations.result.now c.as_slice.result.now c.in_ok-selectors.selectors c.as_slice-all.result.now
    c.new-setting.ensures c.as_slice-enumerations.ensures c.as_slice.ensures c.in_ok-selectors.ensures c.as_slice-all.ensures in
    from_both c.judge_statements.result
    (body_is c.args.names.now (known c.args.units.now) c.args.architecture.now c.args.book.now c.args.start.now c.judge_statements.new.scope c.judge_statements.new.notes c.new-setting.result c.as_slice-all.result.now
    setting c.requires.start c.as_slice-all.ensures)
    c.judge_statements.ensures.ok c.judge_statements.ensures.scope
