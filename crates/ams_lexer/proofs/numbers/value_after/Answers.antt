use Rattle.std.proofs.Common.{◌-◌, ◌+◌, length, get_or, arith, sym, ◌∙◌}
use Rattle.std.specs.Char.{digit_value}
use Rattle.ams_lexer.proofs.ValueLaws.{larger, fits, same_room, digit_below, value_after-digit, value_after-underscore}
use Rattle.ams_lexer.proofs.numbers.value_after.Goals as goal
use Rattle.ams_lexer.proofs.numbers.value_after.Goals.{then-byte-ne95, else-byte-ne95}

pub overflow_mul-value : goal.overflow_mul-value
overflow_mul-value c =
    let w = c.args.text.now in
    let i = c.loop-byte.byte-index in
    let k = 32 - length w + i in
    let below = digit_below c.args.base w i c.requires.digits (omega arith) c.if-byte-ne95.true in
    let more = larger c.loop-byte.value c.args.base (digit_value (get_or w i 0)) k (k + 1) (omega arith) c.requires.small_base c.loop-byte.invariant.1 below in
    let top = fits (k + 1) (omega arith) in
    rw c.from.ensures (omega (arith, more, top))

pub overflow_add-value : goal.overflow_add-value
overflow_add-value c =
    let w = c.args.text.now in
    let i = c.loop-byte.byte-index in
    let k = 32 - length w + i in
    let below = digit_below c.args.base w i c.requires.digits (omega arith) c.if-byte-ne95.true in
    let more = larger c.loop-byte.value c.args.base (digit_value (get_or w i 0)) k (k + 1) (omega arith) c.requires.small_base c.loop-byte.invariant.1 below in
    let top = fits (k + 1) (omega arith) in
    rw (c.from.ensures, c.from-then-byte-ne95.ensures, c.digit_value.ensures) (omega (arith, more, top))

pub loop-byte-preserved : goal.loop-byte-preserved
loop-byte-preserved c =
    let w = c.args.text.now in
    let i = c.loop-byte.byte-index in
    let inv = c.loop-byte.invariant in
    let k = 32 - length w + i in
    let n = c.loop-byte.value in
    elim c.if-byte-ne95.branch [
      | then-byte-ne95 b ↦
          let no = b.if-byte-ne95.true in
          let more = larger n c.args.base (digit_value (get_or w i 0)) k (32 - length w + (i + 1)) (omega arith) c.requires.small_base inv.1 (digit_below c.args.base w i c.requires.digits (omega arith) no) in
          rw (b.value-is, b.from.ensures, b.from-then-byte-ne95.ensures, b.digit_value.ensures) (sym (value_after-digit c.args.base n w i (omega arith) no) ∙ inv.0, more)
      | else-byte-ne95 b ↦
          rw b.value-is (sym (value_after-underscore c.args.base n w i (omega arith) b.if-byte-ne95.false) ∙ inv.0, same_room n k (32 - length w + (i + 1)) (omega arith) inv.1)
    ]
