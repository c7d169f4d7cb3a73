-- Architectures and design files are covered by their reading.
use Rattle.std.proofs.Common.{◌≡◌, ℕ, zero, suc, true, false, List, [], ◌∷◌, is_some, refl}
use Rattle.ams_token.specs.declared.token.TokenKind.{TokenKind}
use Rattle.ams_token.specs.declared.token.TokenKind.TheVariants as kind
use Rattle.ams_token.specs.declared.word.Word.TheVariants as w
use Rattle.ams_token.specs.declared.mark.Mark.TheVariants as m
use Rattle.ams_token.specs.Classes.{kind_class}
use Rattle.ams_tree.specs.Terminals.{word, name_of}
use Rattle.ams_tree.specs.Expressions.{last}
use Rattle.ams_tree.specs.Designs as G
use Rattle.parse_steps.proofs.Sets.{has}
use Rattle.parse_steps.proofs.Covers.{Covers, Tells, pure_covers}
use Rattle.parse_steps.proofs.Covering.{then_, ends, reads, takes_, or_, again, fits}
use Rattle.parse_steps.proofs.KindSets.{W, class_tells, names, name_of_tells}
use Rattle.parse_parts.proofs.Levels.{Exceeded}
use Rattle.parse_parts.proofs.PartsCover.{name_after}
use Rattle.parse_decl.specs.Firsts.{begins_declaration}
use Rattle.parse_decl.proofs.DeclCover.{declaration_covers}
use Rattle.parse_decl.proofs.FirstKinds.{declaration_tells}
use Rattle.parse_conc.specs.Parsing.{begins_concurrent}
use Rattle.parse_conc.proofs.ConcCover.{concurrent_covers, concurrent_tells}
use Rattle.ams_parser.specs.Files as R
use Rattle.ams_parser.specs.Files.{begins_unit, unit_in}
use Rattle.ams_parser.proofs.UnitCover.{unit_end, library_clause, use_clause, entity}

abbrev pub unit_first : List ℕ
unit_first = W w.Library ∷ W w.Use ∷ W w.Entity ∷ W w.Architecture ∷ []

unit_tells : Tells unit_first begins_unit
unfolding begins_unit
unit_tells t = go t.kind
  where
    go : (k : TokenKind) → has unit_first (kind_class k) ≡ is_some (unit_in k)
    go (kind.Name zero) = refl
    go (kind.Name (suc zero)) = refl
    go (kind.Name (suc (suc zero))) = refl
    go (kind.Name (suc (suc (suc zero)))) = refl
    go (kind.Name (suc (suc (suc (suc n))))) = refl
    go (kind.Int x) = refl
    go (kind.Real x) = refl
    go (kind.Char x) = refl
    go (kind.Str x) = refl
    go (kind.Bits x) = refl
    go (kind.Word w.Abs) = refl
    go (kind.Word _) = refl
    go (kind.Mark m.Comma) = refl
    go (kind.Mark _) = refl

module _ (c n l d : ℕ) where
  architecture_head : Covers (Exceeded c n l d) false (W w.Architecture ∷ []) [] (G.architecture_head l d) R.architecture_head
  unfolding G.architecture_head R.architecture_head
  architecture_head = then_ (takes_ _ 0 (W w.Architecture)) (λ _. then_ (reads _ 0 names name_of name_of_tells) (λ id. then_ (name_after _ w.Of) (λ of. ends _ (takes_ _ 0 (W w.Is))) refl) refl) refl

  architecture : Covers (Exceeded c n l d) false (W w.Architecture ∷ []) [] (G.architecture l d) (R.architecture c n)
  unfolding G.architecture R.architecture R.declarations R.statements
  architecture = then_ architecture_head (λ head. then_ (again begins_declaration declaration_tells last (declaration_covers c n l d) refl []) (λ xs. then_ (takes_ _ 0 (W w.Begin))
      (λ _. then_ (again begins_concurrent concurrent_tells last (concurrent_covers c n l d) refl []) (λ ys. then_ (unit_end _ w.Architecture refl) (λ ends. pure_covers _ _) refl) refl) refl) refl) refl

  design_unit : Covers (Exceeded c n l d) false unit_first [] (G.design_unit l d) (R.design_unit c n)
  unfolding G.design_unit R.design_unit
  design_unit = fits unit_first [] (or_ (word w.Library) (class_tells (W w.Library)) (library_clause _)
      (or_ (word w.Use) (class_tells (W w.Use)) (use_clause _)
      (or_ (word w.Entity) (class_tells (W w.Entity)) (entity c n l d) architecture refl) refl) refl) refl refl refl

  pub design_file_covers : Covers (Exceeded c n l d) true unit_first unit_first (G.design_file l d) (R.design_file c n)
  unfolding G.design_file R.design_file R.units
  design_file_covers = fits unit_first unit_first (ends _ (again begins_unit unit_tells last design_unit refl [])) refl refl refl
