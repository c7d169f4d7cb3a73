-- The sets of kinds of the tokens that begin a declaration.
use Rattle.std.proofs.Common.{◌≡◌, zero, suc, is_some, refl}
use Rattle.ams_token.specs.declared.token.TokenKind.{TokenKind}
use Rattle.ams_token.specs.declared.token.TokenKind.TheVariants as kind
use Rattle.ams_token.specs.declared.word.Word.TheVariants as w
use Rattle.ams_token.specs.declared.mark.Mark.TheVariants as m
use Rattle.ams_token.specs.Classes.{kind_class}
use Rattle.parse_steps.proofs.Sets.{has}
use Rattle.parse_steps.proofs.Covers.{Tells}
use Rattle.parse_decl.specs.Firsts.{begins_declaration, declaration_in, begins_process_declaration, process_declaration_in}
use Rattle.parse_decl.proofs.DeclCover.{declaration_first, process_declaration_first}

pub declaration_tells : Tells declaration_first begins_declaration
unfolding begins_declaration
declaration_tells t = go t.kind
  where
    go : (k : TokenKind) → has declaration_first (kind_class k) ≡ is_some (declaration_in k)
    go (kind.Name zero) = refl
    go (kind.Name (suc zero)) = refl
    go (kind.Name (suc (suc zero))) = refl
    go (kind.Name (suc (suc (suc zero)))) = refl
    go (kind.Name (suc (suc (suc (suc n))))) = refl
    go (kind.Int x) = refl
    go (kind.Real x) = refl
    go (kind.Char x) = refl
    go (kind.Str x) = refl
    go (kind.Bits x) = refl
    go (kind.Word w.Abs) = refl
    go (kind.Word _) = refl
    go (kind.Mark m.Comma) = refl
    go (kind.Mark _) = refl

pub process_declaration_tells : Tells process_declaration_first begins_process_declaration
unfolding begins_process_declaration
process_declaration_tells t = go t.kind
  where
    go : (k : TokenKind) → has process_declaration_first (kind_class k) ≡ is_some (process_declaration_in k)
    go (kind.Name zero) = refl
    go (kind.Name (suc zero)) = refl
    go (kind.Name (suc (suc zero))) = refl
    go (kind.Name (suc (suc (suc zero)))) = refl
    go (kind.Name (suc (suc (suc (suc n))))) = refl
    go (kind.Int x) = refl
    go (kind.Real x) = refl
    go (kind.Char x) = refl
    go (kind.Str x) = refl
    go (kind.Bits x) = refl
    go (kind.Word w.Abs) = refl
    go (kind.Word _) = refl
    go (kind.Mark m.Comma) = refl
    go (kind.Mark _) = refl
