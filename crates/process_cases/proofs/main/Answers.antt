use Rattle.std.proofs.Common.{◌≡◌, rules}
use Rattle.process_cases.specs.Cases.{case_text}
use Rattle.process_cases.proofs.Rules.{ready_at}
use Rattle.process_cases.proofs.main.Goals as goal

pub print_runs-requires : goal.print_runs-requires
print_runs-requires c =
    let zero : c.new-bench.result.time ≡ 0 = search rules in
    let text : c.as_slice.result.now ≡ case_text = search rules in
    ready_at c.new-bench.result.process c.new-bench.result.time c.new-bench.result.variables.items c.new-bench.result.elements c.new-bench.result.broke c.new-bench.result.events c.as_slice.result.now
    c.new-bench.ensures.process zero c.new-bench.ensures.variables c.new-bench.ensures.elements c.new-bench.ensures.broke c.new-bench.ensures.events text
