use Rattle.std.proofs.Common.{◌≡◌, OnOk, sym, subst}
use Rattle.elab_meaning.specs.Parts.{judged}
use Rattle.unit_meaning.specs.Cases.{seen_or}
use Rattle.expr_types.specs.Known.{Finds}
use Rattle.case_types.specs.Choices.{fine}
use Rattle.case_types.proofs.Chosen.{seen_sealed, value_part, one_value}
use Rattle.case_types.proofs.choices.one_choice.Goals as goal

pub returns-in-Ok-clause-found : goal.returns-in-Ok-clause-found
returns-in-Ok-clause-found c =
    let one = one_value c.args.setting.now c.args.scope.now c.args.context c.args.kind.now c.args.seen.now c.in-Value.expr c.args.notes.now c.args.choice.now c.names.result.now c.place_of.result c.static_value.new.notes c.in-Ok.found c.in-Value.is c.names.ensures c.place_of.ensures c.in-Ok.ensures.found.0 c.in-Ok.ensures.found.1 in
    subst (λ found. Finds (found.0, judged fine found.1) c.value_choice.result c.value_choice.new.notes) (sym one) c.value_choice.ensures.found

pub returns-in-Ok-clause-seen : goal.returns-in-Ok-clause-seen
returns-in-Ok-clause-seen c =
    let one = one_value c.args.setting.now c.args.scope.now c.args.context c.args.kind.now c.args.seen.now c.in-Value.expr c.args.notes.now c.args.choice.now c.names.result.now c.place_of.result c.static_value.new.notes c.in-Ok.found c.in-Value.is c.names.ensures c.place_of.ensures c.in-Ok.ensures.found.0 c.in-Ok.ensures.found.1 in
    subst (λ found. OnOk c.value_choice.result (c.value_choice.new.seen ≡ seen_or c.args.seen.now found.1)) (sym one)
    (subst (λ now. OnOk c.value_choice.result (c.value_choice.new.seen ≡ now)) (sym (seen_sealed c.args.seen.now (value_part c.args.kind.now c.args.seen.now c.in-Ok.found))) c.value_choice.ensures.seen)
