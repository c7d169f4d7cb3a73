-- What a text gives, by its tokens and its file.
use Rattle.std.proofs.Common.{◌≡◌, ℕ, List, Result, Ok, Err, refl, sym, ap, ◌∙◌, subst, inl, inr}
use Rattle.std.specs.List.{slice_get}
use Rattle.ams_token.specs.declared.token.Place.{Place}
use Rattle.ams_token.specs.declared.token.Token.{Token}
use Rattle.ams_token.specs.declared.tokens.Tokens.{Tokens}
use Rattle.ams_tree.specs.declared.design.DesignFile.{DesignFile}
use Rattle.parse_steps.specs.declared.fault.ParseFault.{ParseFault}
use Rattle.parse_steps.specs.declared.fault.ParseFault.TheVariants.{Memory, Syntax, TooDeep}
use Rattle.flat_design.specs.declared.objects.Objects.{Objects}
use Rattle.refusal_note.specs.Notes.{lex_note, parse_note, token_place}
use Rattle.token_laws.specs.Once.{SameTokens, LexesOnce}
use Rattle.file_laws.specs.Once.{IsFile, HasFault, ReadOnce}
use Rattle.design_reading.specs.Reading.{design_of, NoTokens, NoFile, FileGives, TokensGive, TextGives, Gives}
use Rattle.one_reading.specs.Once.{GivesOnce}

module _ (lexed : LexesOnce) (parsed : ReadOnce) (top : List ℕ) where
  module _ (t u : Tokens) (same : SameTokens t u) where
    same_place : (number : ℕ) → token_place (slice_get t.list.items number) t.end ≡ token_place (slice_get u.list.items number) u.end
    same_place number =
        ap (λ (items : List Token). token_place (slice_get items number) t.end) same.list
        ∙ ap (λ (end : Place). token_place (slice_get u.list.items number) end) same.end

    same_note : (f : ParseFault) → parse_note t f ≡ parse_note u f
    same_note (Syntax number) = rw (same_place number)
    same_note (TooDeep number) = rw (same_place number)
    same_note Memory = refl

    fault_of : (note : List ℕ) (a : NoFile u note) → HasFault t.list.items a.fault
    fault_of note a = subst (λ (items : List Token). HasFault items a.fault) (sym same.list) (record { found = a.found; told = a.told })

    file_of : (d : Result Objects (List ℕ)) (a : FileGives u top d) → IsFile t.list.items a.file
    file_of d a = subst (λ (items : List Token). IsFile items a.file) (sym same.list) a.spells

    notes : (m n : List ℕ) → NoFile t m → NoFile u n → m ≡ n
    notes m n a b =
        a.note_is ∙ same_note a.fault
        ∙ ap (λ (f : ParseFault). parse_note u f) (parsed.fault t.list.items a.fault b.fault (record { found = a.found; told = a.told }) (fault_of n b))
        ∙ sym b.note_is

    files : (d e : Result Objects (List ℕ)) → FileGives t top d → FileGives u top e → d ≡ e
    files d e a b =
        sym a.design_is
        ∙ ap (λ (names : List (List ℕ)). design_of names a.file.units top) same.names
        ∙ ap (λ (file : DesignFile). design_of u.names file.units top) (parsed.file t.list.items a.file b.file a.spells (file_of e b))
        ∙ b.design_is

    no_file_here : (m : List ℕ) (e : Result Objects (List ℕ)) → NoFile t m → FileGives u top e → ⊥
    no_file_here m e a b = parsed.either t.list.items b.file a.fault (file_of e b) (record { found = a.found; told = a.told })

    no_file_there : (d : Result Objects (List ℕ)) (n : List ℕ) → FileGives t top d → NoFile u n → ⊥
    no_file_there d n a b = parsed.either t.list.items a.file b.fault a.spells (fault_of n b)

    both : (d e : Result Objects (List ℕ)) → TokensGive t top d → TokensGive u top e → d ≡ e
    both (Ok x) (Ok y) a b = files (Ok x) (Ok y) a b
    both (Ok x) (Err n) a (inl b) = absurd (no_file_there (Ok x) n a b)
    both (Ok x) (Err n) a (inr b) = files (Ok x) (Err n) a b
    both (Err m) (Ok y) (inl a) b = absurd (no_file_here m (Ok y) a b)
    both (Err m) (Ok y) (inr a) b = files (Err m) (Ok y) a b
    both (Err m) (Err n) (inl a) (inl b) = ap Err (notes m n a b)
    both (Err m) (Err n) (inl a) (inr b) = absurd (no_file_here m (Err n) a b)
    both (Err m) (Err n) (inr a) (inl b) = absurd (no_file_there (Err m) n a b)
    both (Err m) (Err n) (inr a) (inr b) = files (Err m) (Err n) a b

  module _ (text : List ℕ) where
    texts : (d e : Result Objects (List ℕ)) → TextGives text top d → TextGives text top e → d ≡ e
    texts d e a b = both a.tokens b.tokens (lexed.tokens text a.tokens b.tokens a.has b.has) d e a.gives b.gives

    no_tokens : (d : Result Objects (List ℕ)) (n : List ℕ) → TextGives text top d → NoTokens text n → ⊥
    no_tokens d n a b = lexed.either text a.tokens b.fault b.told a.has b.found

    unlexed : (m n : List ℕ) → NoTokens text m → NoTokens text n → m ≡ n
    unlexed m n a b = a.note_is ∙ ap lex_note (lexed.fault text a.fault b.fault a.told b.told a.found b.found) ∙ sym b.note_is

    one : (d e : Result Objects (List ℕ)) → Gives text top d → Gives text top e → d ≡ e
    one (Ok x) (Ok y) a b = texts (Ok x) (Ok y) a b
    one (Ok x) (Err n) a (inl b) = absurd (no_tokens (Ok x) n a b)
    one (Ok x) (Err n) a (inr b) = texts (Ok x) (Err n) a b
    one (Err m) (Ok y) (inl a) b = absurd (no_tokens (Ok y) m b a)
    one (Err m) (Ok y) (inr a) b = texts (Err m) (Ok y) a b
    one (Err m) (Err n) (inl a) (inl b) = ap Err (unlexed m n a b)
    one (Err m) (Err n) (inl a) (inr b) = absurd (no_tokens (Err n) m b a)
    one (Err m) (Err n) (inr a) (inl b) = absurd (no_tokens (Err m) n a b)
    one (Err m) (Err n) (inr a) (inr b) = texts (Err m) (Err n) a b

pub gives_once : LexesOnce → ReadOnce → GivesOnce
gives_once lexed parsed text top d e a b = one lexed parsed top text d e a b
