-- Letters and digits with single underscores between them.
use Rattle.std.specs.Prelude.{◌≡◌, ℕ, suc, Bool, true, false, ◌&&◌, ◌||◌, ◌==◌, List, [], ◌∷◌, if◌then◌else◌}
use Rattle.std.specs.Char.{is_ascii_alphanumeric, is_digit}
use Rattle.ams_lexer.specs.declared.runs.RunClass.{RunClass}
use Rattle.ams_lexer.specs.declared.runs.RunClass.TheVariants as class

abbrev pub begins : (ℕ → Bool) → List ℕ → Bool
begins p [] = false
begins p (b ∷ bs) = p b

-- one of p is next, or an underscore (95) directly before one of p
abbrev pub goes_on : (ℕ → Bool) → List ℕ → Bool
goes_on p [] = false
goes_on p (b ∷ bs) = p b || (b == 95 && begins p bs)

-- each byte is one of p, or an underscore directly before one of p
abbrev pub IsRun : (ℕ → Bool) → List ℕ → Type 0
IsRun p [] = Unit {0}
IsRun p (b ∷ bs) = (goes_on p (b ∷ bs) ≡ true) × IsRun p bs

-- how many bytes the run at the front takes
abbrev pub run_length : (ℕ → Bool) → List ℕ → ℕ
run_length p [] = 0
run_length p (b ∷ bs) = if goes_on p (b ∷ bs) then suc (run_length p bs) else 0

-- the bytes of a class
abbrev pub takes : RunClass → ℕ → Bool
takes class.Word b = is_ascii_alphanumeric b
takes (class.Digits base) b = is_digit b base
