-- A number of 64 bits has at most twenty digits.
use Rattle.std.proofs.Common.{◌-◌, decimal, arith}
use Rattle.std.proofs.lemmas.Fmt.{length-decimal-le}
use Rattle.commit_trace.proofs.TextLemmas.{field_put}
use Rattle.commit_trace.proofs.append.put_number.Goals as goal

pub write_digits-start-requires : goal.write_digits-start-requires
write_digits-start-requires c =
    let short = length-decimal-le 20 c.args.number (omega arith) (omega arith) (omega arith) in
    (omega (arith, short), omega arith)

pub overflow_sub-start : goal.overflow_sub-start
overflow_sub-start c =
    let short = length-decimal-le 20 c.args.number (omega arith) (omega arith) (omega arith) in
    omega (arith, short)

pub returns-clause-start : goal.returns-clause-start
returns-clause-start c =
    let short = length-decimal-le 20 c.args.number (omega arith) (omega arith) (omega arith) in
    omega (arith, short)

pub returns-clause-text : goal.returns-clause-text
returns-clause-text c =
    let short = length-decimal-le 20 c.args.number (omega arith) (omega arith) (omega arith) in
    field_put c.args.text.now c.write_digits-start.new.buf (c.write_digits-start.result - 1) c.write_digits-start.result c.args.end (decimal c.args.number)
    (omega (arith, short)) (omega (arith, short)) c.write_digits-start.ensures.written
