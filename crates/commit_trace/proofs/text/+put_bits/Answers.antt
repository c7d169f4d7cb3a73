use Rattle.std.proofs.Common.{◌-◌, ◌∙◌, ap, arith}
use Rattle.trace_text.specs.Trace.{bit_text}
use Rattle.commit_trace.proofs.BitLemmas.{bits_put}
use Rattle.commit_trace.proofs.text.+put_bits.Goals as goal

pub returns-clause-text : goal.returns-clause-text
returns-clause-text t c =
    bits_put c.args.out.now _ c.args.at c.args.length (c.args.length - 1) c.args.content c.put_bits.result c.bit_digit.result (omega arith) (omega arith) (omega arith)
    (c.bit_digit.ensures ∙ ap bit_text c.bit_at.ensures) c.put_bits.ensures.text
