-- Each text stands in its table.
use Rattle.std.proofs.Common.{List, map, ℕ, Contains, refl, lit<}
use Rattle.ams_token.specs.declared.word.TheConstants.{RESERVED_WORDS}
use Rattle.ams_token.specs.declared.mark.TheConstants.{MARKS}
use Rattle.ams_token.specs.declared.time_unit.TheConstants.{TIME_UNITS}
use Rattle.ams_token.specs.declared.word.Word.{Word}
use Rattle.ams_token.specs.declared.word.Word.TheVariants as w
use Rattle.ams_token.specs.declared.mark.Mark.{Mark}
use Rattle.ams_token.specs.declared.mark.Mark.TheVariants as m
use Rattle.ams_token.specs.declared.time_unit.TimeUnit.{TimeUnit}
use Rattle.ams_token.specs.declared.time_unit.TimeUnit.TheVariants as u
use Rattle.ams_token.specs.Spelling.{word_text, word_number, mark_text, mark_number, unit_text, unit_number}

-- the tables
abbrev pub word_table : List (Word × List ℕ)
word_table = map (λ x. (x.0, x.1.now)) RESERVED_WORDS.now

abbrev pub mark_table : List (Mark × List ℕ)
mark_table = map (λ x. (x.0, x.1.now)) MARKS.now

abbrev pub unit_table : List (TimeUnit × List ℕ)
unit_table = map (λ x. (x.0, x.1.now)) TIME_UNITS.now

pub word_listed : (x : Word) → Contains (map (λ y. y.1) word_table) (word_text x)
word_listed w.Abs = (0, lit< tt, refl)
word_listed x = (word_number x, lit< tt, refl)

pub mark_listed : (x : Mark) → Contains (map (λ y. y.1) mark_table) (mark_text x)
mark_listed m.Ampersand = (0, lit< tt, refl)
mark_listed x = (mark_number x, lit< tt, refl)

pub unit_listed : (x : TimeUnit) → Contains (map (λ y. y.1) unit_table) (unit_text x)
unit_listed u.Fs = (0, lit< tt, refl)
unit_listed x = (unit_number x, lit< tt, refl)
