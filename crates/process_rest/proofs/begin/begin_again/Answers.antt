use Rattle.std.proofs.Common.{◌≡◌, refl, sym, subst, suc, true, false, not, ◌&&◌, nat_eq, length, ◌≤◌, add-one, Some}
use Rattle.std.specs.List.{slice_get, list_any}
use Rattle.std.proofs.lemmas.Option.{slice_get_read}
use Rattle.cycle_meaning.specs.Processes.{parameters_at}
use Rattle.process_rest.proofs.Begins.{HaveBegun, one_begins, one_stays, all_begun}
use Rattle.process_rest.proofs.begin.begin_again.Goals as goal
use Rattle.process_rest.proofs.begin.begin_again.Goals.{then-begins_again, else-begins_again}

pub loop-number-preserved : goal.loop-number-preserved
loop-number-preserved c =
    let ps = parameters_at (slice_get c.args.process.now.waits c.args.wait) in
    let items = c.as_slice-variable-items.result.now in
    let n = c.loop-number.number in
    let x = c.variable-item.result in
    let x_is : slice_get c.args.process.now.variables n ≡ Some x = subst (λ l. slice_get l n ≡ Some x) c.as_slice-variable-items.ensures (slice_get_read items (length items) n x refl c.loop-number-test.true c.variable-item.is) in
    subst (λ m. HaveBegun c.args.process.now.variables ps m c.args.variables.now c.if-begins_again.variables) (sym (add-one n))
    (elim c.if-begins_again.branch [
      | then-begins_again w ↦
          let test : (x.is_parameter && not (list_any (nat_eq n) ps)) ≡ true = (let round = c.parameters_round-round.ensures in let flag = c.begins_again.ensures in let holds = w.if-begins_again.true in cc) in
          subst (HaveBegun c.args.process.now.variables ps (suc n) c.args.variables.now) (sym w.variables-is)
          (one_begins c.args.process.now.variables ps n c.args.variables.now c.loop-number.variables x x_is test c.loop-number.invariant)
      | else-begins_again w ↦
          let test : (x.is_parameter && not (list_any (nat_eq n) ps)) ≡ false = (let round = c.parameters_round-round.ensures in let flag = c.begins_again.ensures in let fails = w.if-begins_again.false in cc) in
          subst (HaveBegun c.args.process.now.variables ps (suc n) c.args.variables.now) (sym w.variables-is)
          (one_stays c.args.process.now.variables ps n c.args.variables.now c.loop-number.variables x x_is test c.loop-number.invariant)
    ])

pub returns : goal.returns
returns c =
    let n = c.loop-number.number in
    let all : length c.args.process.now.variables ≤ n = subst (λ l. length l ≤ n) c.as_slice-variable-items.ensures c.loop-number-test.false in
    all_begun c.args.process.now.variables (parameters_at (slice_get c.args.process.now.waits c.args.wait)) n c.args.variables.now c.loop-number.variables c.requires all c.loop-number.invariant
