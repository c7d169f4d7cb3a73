-- The texts that a text's table of names has.
use Rattle.std.specs.Prelude.{◌≢◌, ◌<◌, ℕ, List}
use Rattle.std.specs.List.{All}
use Rattle.ams_token.specs.declared.tokens.Tokens.{Tokens}
use Rattle.ams_lexer.specs.Texts.{HasTokens}

-- ASCII without a line feed
abbrev pub IsLine : List ℕ → Type 0
IsLine text = All (λ b. (b < 128) × (b ≢ 10)) text

-- so is each text of the table of names of a text
abbrev pub TextsAreLines : Type 0
TextsAreLines = (text : List ℕ) (tokens : Tokens) → HasTokens text tokens → All IsLine tokens.names
