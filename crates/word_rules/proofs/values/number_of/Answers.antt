use Rattle.std.proofs.Common.{rules}
use Rattle.word_rules.specs.Words.{number_of}
use Rattle.word_rules.proofs.NumberLemmas.{few_digits_read}
use Rattle.word_rules.proofs.values.number_of.Goals as goal

pub returns-then-are_digits : goal.returns-then-are_digits
unfolding number_of
returns-then-are_digits c =
    let read = few_digits_read c.args.text.now c.parse.result c.parse.ensures.value.0 (search rules) in
    search (rules, read)
