use Rattle.std.proofs.Common.{◌≡◌, ap, sym, ◌∙◌, ℤ, rules}
use mir.Syntax.{w32}
use mir.Val.{SFits}
use Rattle.flat_expr.specs.declared.statement.Statement.{out-Statement}
use Rattle.cycle_meaning.specs.Statements.{integer_of}
use Rattle.process_control.proofs.Passing.{value_there, turns_further, turns_no_further, out_for, read_parameter, on_way_cast, further_cast, turned_cast}
use Rattle.process_control.proofs.next.end_inside.Goals as goal

pub further_value-requires : goal.further_value-requires
further_value-requires g c =
    let l = g.A.Activation.local c.args.at.now in
    let layer = ap out-Statement c.in-For.is ∙ out_for c.in-For.number c.in-For.field-1 c.in-For.direction c.in-For.field-3 c.in-For.field-4 in
    let there = value_there l c.in-For.number c.in-For.field-1 c.in-For.direction c.in-For.field-3 c.in-For.field-4 c.args.last _ layer c.requires.way in
    let f : SFits w32 c.integer.result = search rules in
    on_way_cast c.in-For.direction there.0 c.integer.result c.args.last f c.ranges.last
    (c.integer.ensures ∙ (ap integer_of c.variable.ensures ∙ (read_parameter (g.A.Activation.context c.args.at.now) l (g.A.Values.readings c.args.at.now) c.in-For.number there.0 (g.met.A.Activation.reads c.args.at.now) there.1 ∙ there.3))) there.2

pub returns-in-Some-clause-past : goal.returns-in-Some-clause-past
returns-in-Some-clause-past g c = λ round others.
    let l = g.A.Activation.local c.args.at.now in
    let layer = ap out-Statement c.in-For.is ∙ out_for c.in-For.number c.in-For.field-1 c.in-For.direction c.in-For.field-3 c.in-For.field-4 in
    let there = value_there l c.in-For.number c.in-For.field-1 c.in-For.direction c.in-For.field-3 c.in-For.field-4 c.args.last _ layer c.requires.way in
    let f : SFits w32 c.integer.result = search rules in
    let v : SFits w32 c.in-Some.value = search rules in
    turns_further (g.A.Activation.context c.args.at.now) l round c.in-For.number c.in-For.field-1 c.in-For.direction c.in-For.field-3 c.in-For.field-4 c.args.last _ others layer c.in-Some.value
    (further_cast c.in-For.direction _ c.integer.result c.args.last c.further_value.result f c.ranges.last
    (c.integer.ensures ∙ (ap integer_of c.variable.ensures ∙ read_parameter (g.A.Activation.context c.args.at.now) l (g.A.Values.readings c.args.at.now) c.in-For.number there.0 (g.met.A.Activation.reads c.args.at.now) there.1)) c.further_value.ensures.value
    ∙ c.in-Some.is)
    ∙ turned_cast l round c.in-For.number c.in-Some.value v

pub returns-in-None-clause-past : goal.returns-in-None-clause-past
returns-in-None-clause-past g c = λ round others.
    let l = g.A.Activation.local c.args.at.now in
    let layer = ap out-Statement c.in-For.is ∙ out_for c.in-For.number c.in-For.field-1 c.in-For.direction c.in-For.field-3 c.in-For.field-4 in
    let there = value_there l c.in-For.number c.in-For.field-1 c.in-For.direction c.in-For.field-3 c.in-For.field-4 c.args.last _ layer c.requires.way in
    let f : SFits w32 c.integer.result = search rules in
    turns_no_further (g.A.Activation.context c.args.at.now) l round c.in-For.number c.in-For.field-1 c.in-For.direction c.in-For.field-3 c.in-For.field-4 c.args.last _ others layer
    (further_cast c.in-For.direction _ c.integer.result c.args.last c.further_value.result f c.ranges.last
    (c.integer.ensures ∙ (ap integer_of c.variable.ensures ∙ read_parameter (g.A.Activation.context c.args.at.now) l (g.A.Values.readings c.args.at.now) c.in-For.number there.0 (g.met.A.Activation.reads c.args.at.now) there.1)) c.further_value.ensures.value
    ∙ c.in-None.is)
