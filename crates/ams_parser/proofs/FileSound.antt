-- What is read by the rules of architectures and design files is a text of them.
use Rattle.std.proofs.Common.{ℕ, ◌≤◌, []}
use Rattle.ams_token.specs.declared.word.Word.TheVariants as w
use Rattle.ams_tree.specs.Terminals.{word}
use Rattle.ams_tree.specs.Expressions.{last}
use Rattle.ams_tree.specs.Designs as G
use Rattle.parse_steps.proofs.Sound.{Sound, pure_sound}
use Rattle.parse_steps.proofs.Sounding.{then_, ends, free, or_, again}
use Rattle.parse_expr.proofs.RulesSound.{More}
use Rattle.parse_parts.proofs.PartsSound.{name_after}
use Rattle.parse_decl.specs.Firsts.{begins_declaration}
use Rattle.parse_decl.proofs.DeclSound.{declaration_sound}
use Rattle.parse_conc.specs.Parsing.{begins_concurrent}
use Rattle.parse_conc.proofs.ConcSound.{concurrent_sound}
use Rattle.ams_parser.specs.Files as R
use Rattle.ams_parser.specs.Files.{begins_unit}
use Rattle.ams_parser.proofs.UnitSound.{unit_end, library_clause, use_clause, entity}

module _ (c n l d : ℕ) (le1 : c ≤ l) (le2 : n ≤ d) where
  architecture_head : Sound (More c n l d) (G.architecture_head l d) R.architecture_head
  unfolding G.architecture_head R.architecture_head
  architecture_head = then_ (free _ _) (λ _. then_ (free _ _) (λ id. then_ (name_after _ w.Of) (λ of. ends _ (free _ _))))

  architecture : Sound (More c n l d) (G.architecture l d) (R.architecture c n)
  unfolding G.architecture R.architecture R.declarations R.statements
  architecture = then_ architecture_head (λ head. then_ (again begins_declaration last (declaration_sound c n l d le1 le2) []) (λ xs. then_ (free _ _)
      (λ _. then_ (again begins_concurrent last (concurrent_sound c n l d le1 le2) []) (λ ys. then_ (unit_end _ w.Architecture) (λ ends. pure_sound _ _)))))

  design_unit : Sound (More c n l d) (G.design_unit l d) (R.design_unit c n)
  unfolding G.design_unit R.design_unit
  design_unit = or_ (word w.Library) (library_clause _) (or_ (word w.Use) (use_clause _) (or_ (word w.Entity) (entity c n l d le1 le2) architecture))

  pub design_file_sound : Sound (More c n l d) (G.design_file l d) (R.design_file c n)
  unfolding G.design_file R.design_file R.units
  design_file_sound = ends _ (again begins_unit last design_unit [])
