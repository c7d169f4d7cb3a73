use Rattle.std.proofs.Common.{arith, refl}
use Rattle.std.proofs.lemmas.Result.{on_ok_weaker}
use Rattle.ams_lexer.specs.declared.lexer.Lexer.{Lexer}
use Rattle.ams_lexer.proofs.TextLaws.{fault_bound, progress_fault, goes_past_token, goes_past_blank}
use Rattle.ams_lexer.proofs.lexer.Lexer.advance.Goals as goal

pub fault-requires-clause-short : goal.fault-requires-clause-short
fault-requires-clause-short c = omega (arith, fault_bound c.args.text.now c.split_at.result.1.now c.args.self.now.at c.in-Err.refused.0 c.in-Err.refused.1 c.split_at.ensures.back c.in-Err.ensures c.requires.within)

pub returns-in-Err-clause-err : goal.returns-in-Err-clause-err
returns-in-Err-clause-err c = rw c.fault.ensures (progress_fault c.args.text.now c.split_at.result.1.now c.args.self.now c.in-Err.refused.0 c.in-Err.refused.1 c.requires.progress c.requires.within c.split_at.ensures.back c.in-Err.ensures)

pub returns-in-Some-clause-ok : goal.returns-in-Some-clause-ok
returns-in-Some-clause-ok c =
    let old = c.args.self.now in
    let mid : Lexer = record old { names = c.kind_of.new.names; scratch = c.kind_of.new.scratch } in
    on_ok_weaker c.push.result
    (λ pushed. goes_past_token c.args.text.now c.split_at.result.1.now c.split_at-2.result.0.now old mid c.push.new.self c.in-Ok.found c.in_ok-kind.field-0 c.in-Some.kind c.requires.progress c.requires.within c.split_at.ensures.back c.in-Ok.ensures c.split_at-2.ensures.front
    (record { at = refl; attribute = refl; line = refl; line_start = refl; tokens = refl }) c.in_ok-kind.ensures c.in-Some.is pushed)
    c.push.ensures.ok

pub returns-in-None-clause-ok : goal.returns-in-None-clause-ok
returns-in-None-clause-ok c =
    let old = c.args.self.now in
    let mid : Lexer = record old { names = c.kind_of.new.names; scratch = c.kind_of.new.scratch } in
    goes_past_blank c.args.text.now c.split_at.result.1.now c.split_at-2.result.0.now old mid c.skip.new.self c.in-Ok.found c.in_ok-kind.field-0 _ c.requires.progress c.requires.within c.split_at.ensures.back c.in-Ok.ensures c.split_at-2.ensures.front
    (record { at = refl; attribute = refl; line = refl; line_start = refl; tokens = refl }) c.in_ok-kind.ensures c.in-None.is refl c.skip.ensures
