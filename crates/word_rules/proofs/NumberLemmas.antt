-- What `parse` makes of a few digits.
use Rattle.std.proofs.Common.{◌≡◌, ◌≤◌, ◌<◌, ◌^◌, ℕ, ◌&&◌, true, length, Result, Ok, arith, rules}
use Rattle.std.specs.Prelude.{nat_le}
use Rattle.std.specs.List.{list_all}
use Rattle.std.specs.Char.{is_ascii_digit}
use Rattle.std.specs.Str.Parse.{digits_value, ParsesUnsigned}
use Rattle.std.proofs.lemmas.Bool.{and_parts}
use Rattle.std.proofs.lemmas.Bool.Decides.{nat_tests}
use Rattle.std.proofs.lemmas.Str.Parse.{IsNumeralModel, numerals_by_value, parse_gives, digits_value_short}
use Rattle.word_rules.specs.Words.{Text, are_digits}

own : IsNumeralModel (λ ds. list_all is_ascii_digit ds ≡ true) (digits_value 10)
own = numerals_by_value _ (search rules)

pub few_digits_read : {E : Type 0} (text : Text) (r : Result ℕ E) → ParsesUnsigned 64 10 text r → are_digits text ≡ true → r ≡ Ok (digits_value 10 text)
few_digits_read text r h digits =
    let parts = and_parts (nat_le 1 (length text) && nat_le (length text) 16) (list_all is_ascii_digit text) digits in
    let lengths = and_parts (nat_le 1 (length text)) (nat_le (length text) 16) parts.0 in
    let some : 1 ≤ length text = grind (arith, nat_tests, lengths.0) in
    let few : length text ≤ 16 = grind (arith, nat_tests, lengths.1) in
    let small : digits_value 10 text < 10 ^ 16 = digits_value_short own text 16 parts.1 few in
    parse_gives own 64 text r h parts.1 some (omega arith)
