-- What a reading gives, from what its stages answer.
use Rattle.std.proofs.Common.{◌≡◌, ℕ, List, Result, Ok, Err, sym, ap, subst, ◌∙◌, inl, inr}
use Rattle.ams_token.specs.declared.tokens.Tokens.{Tokens}
use Rattle.ams_tree.specs.declared.design.DesignFile.{DesignFile}
use Rattle.ams_tree.specs.Designs as grammar
use Rattle.ams_tree.specs.Answer.{SpellsWithin}
use Rattle.ams_lexer.specs.Texts.{HasTokens}
use Rattle.parse_steps.specs.Reply.{most_levels, most_operators}
use Rattle.flat_design.specs.declared.objects.Objects.{Objects}
use Rattle.design_reading.specs.declared.unread.Unread.{Unread}
use Rattle.design_reading.specs.declared.unread.Unread.TheVariants.{Refused, Memory}
use Rattle.design_reading.specs.Reading.{design_of, NoTokens, NoFile, TokensGive, Gives, Reads, Notes}

-- what equals a note is told by it
pub noted : (d : Result Objects (List ℕ)) (note : List ℕ) (u : Unread) → d ≡ Err note → Notes (λ n. n ≡ note) u → Reads (λ design. d ≡ design) (Err u)
noted d note (Refused n) e h = e ∙ ap Err (sym h)
noted d note Memory e h = tt

-- what equals it gives the same
pub moved : (d e : Result Objects (List ℕ)) (r : Result Objects Unread) → d ≡ e → Reads (λ x. e ≡ x) r → Reads (λ x. d ≡ x) r
moved d e r p h = subst (λ (y : Result Objects (List ℕ)). Reads (λ x. y ≡ x) r) (sym p) h

pub file_gives : (tokens : Tokens) (top : List ℕ) (file : DesignFile) (r : Result Objects Unread) → SpellsWithin grammar.design_file most_levels most_operators file tokens.list.items → Reads (λ design. design_of tokens.names file.units top ≡ design) r → Reads (TokensGive tokens top) r
file_gives tokens top file (Ok x) s h = record { file = file; spells = s; design_is = h }
file_gives tokens top file (Err (Refused note)) s h = inr (record { file = file; spells = s; design_is = h })
file_gives tokens top file (Err Memory) s h = tt

pub no_file : (tokens : Tokens) (top : List ℕ) (u : Unread) → Notes (NoFile tokens) u → Reads (TokensGive tokens top) (Err u)
no_file tokens top (Refused note) h = inl h
no_file tokens top Memory h = tt

pub text_gives : (text top : List ℕ) (tokens : Tokens) (r : Result Objects Unread) → HasTokens text tokens → Reads (TokensGive tokens top) r → Reads (Gives text top) r
text_gives text top tokens (Ok x) has h = record { tokens = tokens; has = has; gives = h }
text_gives text top tokens (Err (Refused note)) has h = inr (record { tokens = tokens; has = has; gives = h })
text_gives text top tokens (Err Memory) has h = tt

pub no_text : (text top : List ℕ) (u : Unread) → Notes (NoTokens text) u → Reads (Gives text top) (Err u)
no_text text top (Refused note) h = inl h
no_text text top Memory h = tt
