-- The texts of reserved words, marks and units of time: those at their numbers in their tables.
use Rattle.std.specs.Prelude.{ℕ, zero, suc, List, [], ◌∷◌}
use denote.Enum.Declared.{tag_of}
use Rattle.ams_token.specs.declared.word.TheConstants.{RESERVED_WORDS}
use Rattle.ams_token.specs.declared.mark.TheConstants.{MARKS}
use Rattle.ams_token.specs.declared.time_unit.TheConstants.{TIME_UNITS}
use Rattle.ams_token.specs.declared.word.Word.{Word}
use Rattle.ams_token.specs.contracts.word.Word as word_type
use Rattle.ams_token.specs.declared.mark.Mark.{Mark}
use Rattle.ams_token.specs.contracts.mark.Mark as mark_type
use Rattle.ams_token.specs.declared.time_unit.TimeUnit.{TimeUnit}
use Rattle.ams_token.specs.contracts.time_unit.TimeUnit as unit_type

-- the text at a number of a table
abbrev pub text_at : {X : Type 0} → (X → List ℕ) → List X → ℕ → List ℕ
text_at text [] n = []
text_at text (x ∷ xs) zero = text x
text_at text (x ∷ xs) (suc n) = text_at text xs n

-- the first reserved word has number 0
abbrev pub word_number : Word → ℕ
word_number x = tag_of word_type.the_type x

-- in lower case
abbrev pub word_text : Word → List ℕ
word_text x = text_at (λ y. y.1.now) RESERVED_WORDS.now (word_number x)

-- the first mark has number 0
abbrev pub mark_number : Mark → ℕ
mark_number x = tag_of mark_type.the_type x

abbrev pub mark_text : Mark → List ℕ
mark_text x = text_at (λ y. y.1.now) MARKS.now (mark_number x)

-- the first unit of time has number 0
abbrev pub unit_number : TimeUnit → ℕ
unit_number x = tag_of unit_type.the_type x

-- in lower case
abbrev pub unit_text : TimeUnit → List ℕ
unit_text x = text_at (λ y. y.1.now) TIME_UNITS.now (unit_number x)
