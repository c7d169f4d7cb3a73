use Rattle.std.proofs.Common.{string_bytes, refl}
use Rattle.program_output.specs.Port.{port}
use Rattle.text_modes.proofs.Handing.{runs_design, runs_nothing}
use Rattle.text_modes.proofs.lockstep.simulate_text.Goals as goal

pub returns-in-Ok : goal.returns-in-Ok
returns-in-Ok g c =
    runs_design c.run_status.result c.args.text.now c.as_str.result.now (string_bytes c.args.top.now) c.args.options.now c.in-Ok.flat c.run_design.result _ _
    c.runs_hand_on.ensures c.as_str.ensures.value c.run_status.ensures c.in-Ok.ensures c.run_design.ensures.puts c.run_design.ensures.end

pub returns-in-Err : goal.returns-in-Err
returns-in-Err g c =
    runs_nothing c.in-Err.status c.args.text.now c.as_str.result.now (string_bytes c.args.top.now) c.args.options.now _ _ c.as_str.ensures.value c.in-Err.ensures refl
