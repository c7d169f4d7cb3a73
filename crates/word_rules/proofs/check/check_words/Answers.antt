use Rattle.std.proofs.Common.{◌+◌, sym, ◌∙◌, None, Some, arith}
use Rattle.std.specs.Prelude.{option_copied}
use Rattle.word_rules.specs.Words.{texts}
use Rattle.word_rules.proofs.RangeLemmas.{in_range}
use Rattle.word_rules.proofs.RefusalLemmas.{NoneRefused, text_at, length_texts, word_of_texts, copied_some, none_at_start, few_before, word_refused, word_accepted, all_accepted}
use Rattle.word_rules.proofs.check.check_words.Goals as goal

pub loop-at-init : goal.loop-at-init
loop-at-init c = record { within = omega arith; none = none_at_start (texts c.args.words.now); few = omega arith }

pub returns-in-None-clause-first : goal.returns-in-None-clause-first
returns-in-None-clause-first c =
    word_refused (texts c.args.words.now) c.loop-at.at (option_copied c.loop-at.waiting) c.as_str.result.now c.loop-at.invariant.none
    (omega (arith, length_texts c.args.words.now))
    (text_at c.args.words.now c.loop-at.at c.index-words-at.result c.as_str.result.now c.loop-at-test.true c.index-words-at.is c.as_str.ensures.value)
    (word_of_texts c.args.words.now c.loop-at.at (option_copied c.loop-at.waiting) c.as_str.result.now None c.in-None.ensures)

pub loop-at-preserved : goal.loop-at-preserved
loop-at-preserved c =
    let next : NoneRefused (texts c.args.words.now) (c.loop-at.at + 1) (option_copied c.in-Some.next) =
    word_accepted (texts c.args.words.now) c.loop-at.at (option_copied c.loop-at.waiting) c.as_str.result.now (option_copied c.in-Some.next) c.loop-at.invariant.none
    (omega (arith, length_texts c.args.words.now))
    (text_at c.args.words.now c.loop-at.at c.index-words-at.result c.as_str.result.now c.loop-at-test.true c.index-words-at.is c.as_str.ensures.value)
    (word_of_texts c.args.words.now c.loop-at.at (option_copied c.loop-at.waiting) c.as_str.result.now (Some (option_copied c.in-Some.next)) c.in-Some.ensures) in
    record {
      within = omega arith;
      none = next;
      few = few_before (texts c.args.words.now) (c.loop-at.at + 1) (option_copied c.in-Some.next) next (omega (arith, length_texts c.args.words.now));
    }

pub returns-then-is_whole-clause-ranges : goal.returns-then-is_whole-clause-ranges
returns-then-is_whole-clause-ranges c = in_range (texts c.args.words.now)
    (all_accepted (texts c.args.words.now) c.loop-at.at (option_copied c.loop-at.waiting) _ c.loop-at.invariant.none (omega (arith, length_texts c.args.words.now)) (copied_some c.loop-at.waiting ∙ sym c.is_some.ensures ∙ c.if-is_some.false) c.is_whole.ensures c.if-is_whole.true)
