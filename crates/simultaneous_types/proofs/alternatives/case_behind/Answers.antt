use Rattle.std.proofs.Common.{◌∙◌}
use Rattle.simultaneous_types.proofs.Cases as cases
use Rattle.simultaneous_types.proofs.alternatives.case_behind.Goals as goal

pub returns : goal.returns
returns c =
    cases.begins c.args.setting.now c.args.scope.now c.args.place c.args.alternatives.now c.finish_case.result c.finish_case.new.notes
    c.args.selector c.into_inner-selector.result c.known_kind-kind.result c.args.notes.now c.case_arms.new.notes c.nothing_seen-seen.result c.case_arms.new.seen c.in_ok-arms.arms c.into_inner-arms.result c.in_ok-lengths.lengths c.as_slice.result.now
    c.known_kind-kind.ensures c.nothing_seen-seen.ensures c.in_ok-arms.ensures.found.0 c.in_ok-arms.ensures.found.1 c.in_ok-arms.ensures.seen
    c.in_ok-lengths.ensures c.as_slice.ensures (c.into_inner-selector.ensures ∙ c.new-selector.ensures) (c.into_inner-arms.ensures ∙ c.new-arms.ensures) c.finish_case.ensures
