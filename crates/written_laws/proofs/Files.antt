-- Declarations, units and files that tokens spell.
use Rattle.std.proofs.Common.{ℕ, ◌<◌, ⊎_elim, List, [], ◌∷◌, length, Option, Some, None, sym, subst, arith}
use Rattle.std.proofs.lemmas.List.Elements.{All-nil}
use Rattle.ams_token.specs.declared.mark.Mark.TheVariants as m
use Rattle.ams_token.specs.declared.token.Place.{Place}
use Rattle.ams_tree.specs.declared.concurrent.Concurrent.{Concurrent}
use Rattle.ams_tree.specs.declared.declaration.Declaration.{Declaration}
use Rattle.ams_tree.specs.declared.design.DesignFile.{DesignFile}
use Rattle.ams_tree.specs.declared.design.DesignUnit.{DesignUnit}
use Rattle.ams_tree.specs.declared.expression.Name.{Name}
use Rattle.ams_tree.specs.Rule.{Rule, one, ◌>>◌}
use Rattle.ams_tree.specs.Terminals.{mark, name_of}
use Rattle.ams_tree.specs.Declarations.{more_names, names, signal_declaration, terminal_declaration, across_ends, across_branch, through_branch, free_quantity, quantity_declaration, rest_of_nature, nature_declaration, enumerated, enumeration_declaration, subtype_declaration, declaration}
use Rattle.ams_tree.specs.Concurrents.{concurrent}
use Rattle.ams_tree.specs.Designs.{library_clause, use_clause, entity, architecture, design_unit, design_file}
use Rattle.written_laws.specs.Written.{HasLiterals, IsWritten, UnitIsWritten, FileIsWritten, TextsWriteTrees}
use Rattle.written_laws.proofs.Lists.{Makes, repeated_each, repeated_some}
use Rattle.written_laws.proofs.Concurrents.{concurrent_written}

-- ---- declarations

some_names : Makes (List Name) (λ (all : List Name). 0 < length all) names
unfolding names more_names
some_names all ts n r = repeated_some Name (one (mark m.Comma) >> one name_of) (r.first ∷ []) (omega arith) all r.back r.back_count r.spells_back

abbrev MakesDeclaration : Rule Declaration → Type 0
MakesDeclaration = Makes Declaration HasLiterals

module _ (limit depth : ℕ) where
  signal_has : MakesDeclaration (signal_declaration limit depth)
  unfolding signal_declaration
  signal_has d ts n r = subst HasLiterals (sym r.spells_back.spells_back.spells_back.spells_back.spells_back.tree) tt

  terminal_has : MakesDeclaration (terminal_declaration limit depth)
  unfolding terminal_declaration
  terminal_has d ts n r = subst HasLiterals (sym r.spells_back.spells_back.spells_back.spells_back.tree) tt

  across_has : (place : Place) (across : List Name) (through : Option (List Name)) (from : Name) → MakesDeclaration (across_ends limit depth place across through from)
  unfolding across_ends
  across_has place across through from d ts n r = subst HasLiterals (sym r.spells_back.spells_back.tree) tt

  branch_has : (place : Place) (ids : List Name) → MakesDeclaration (across_branch limit depth place ids)
  unfolding across_branch
  branch_has place ids d ts n r =
      ⊎_elim
      (λ a.
      let ends = a.spells_back in
      across_has place ids (Some a.first) ends.first d ends.back ends.back_count ends.spells_back)
      (λ b. across_has place ids None r.first d r.back r.back_count b)
      r.spells_back

  through_has : (place : Place) (ids : List Name) → MakesDeclaration (through_branch limit depth place ids)
  unfolding through_branch
  through_has place ids d ts n r = subst HasLiterals (sym r.spells_back.spells_back.spells_back.tree) tt

  free_has : (place : Place) (ids : List Name) → MakesDeclaration (free_quantity limit depth place ids)
  unfolding free_quantity
  free_has place ids d ts n r = subst HasLiterals (sym r.spells_back.spells_back.spells_back.spells_back.tree) tt

  quantity_has : MakesDeclaration (quantity_declaration limit depth)
  unfolding quantity_declaration
  quantity_has d ts n r =
      let ids = r.spells_back in
      ⊎_elim (free_has r.first ids.first d ids.back ids.back_count)
      (⊎_elim (branch_has r.first ids.first d ids.back ids.back_count) (through_has r.first ids.first d ids.back ids.back_count))
      ids.spells_back

  nature_has : MakesDeclaration (nature_declaration limit depth)
  unfolding nature_declaration rest_of_nature
  nature_has d ts n r = subst HasLiterals (sym r.spells_back.spells_back.spells_back.spells_back.spells_back.spells_back.spells_back.tree) tt

  some_literals : Makes (List Name) (λ (all : List Name). 0 < length all) (enumerated limit depth)
  unfolding enumerated
  some_literals all ts n r =
      let found = r.spells_back in
      subst (λ (xs : List Name). 0 < length xs) (sym found.spells_back.spells_back.tree) (some_names found.first found.front found.front_count found.spells_front)

  enumeration_has : MakesDeclaration (enumeration_declaration limit depth)
  unfolding enumeration_declaration
  enumeration_has d ts n r =
      let literals = r.spells_back.spells_back.spells_back in
      subst HasLiterals (sym literals.spells_back.spells_back.tree) (some_literals literals.first literals.front literals.front_count literals.spells_front)

  subtype_has : MakesDeclaration (subtype_declaration limit depth)
  unfolding subtype_declaration
  subtype_has d ts n r = subst HasLiterals (sym r.spells_back.spells_back.spells_back.spells_back.spells_back.tree) tt

  declaration_has : MakesDeclaration (declaration limit depth)
  unfolding declaration
  declaration_has d ts n r =
      ⊎_elim (signal_has d ts n)
      (⊎_elim (λ c. subst HasLiterals (sym c.spells_back.spells_back.tree) tt)
      (⊎_elim (terminal_has d ts n)
      (⊎_elim (quantity_has d ts n) (⊎_elim (nature_has d ts n) (⊎_elim (enumeration_has d ts n) (subtype_has d ts n))))))
      r

-- ---- units

abbrev MakesUnit : Rule DesignUnit → Type 0
MakesUnit = Makes DesignUnit UnitIsWritten

library_written : MakesUnit library_clause
unfolding library_clause
library_written u ts n r = subst UnitIsWritten (sym r.spells_back.spells_back.spells_back.tree) tt

use_written : MakesUnit use_clause
unfolding use_clause
use_written u ts n r = subst UnitIsWritten (sym r.spells_back.spells_back.spells_back.spells_back.tree) tt

module _ (limit depth : ℕ) where
  entity_written : MakesUnit (entity limit depth)
  unfolding entity
  entity_written u ts n r = subst UnitIsWritten (sym r.spells_back.spells_back.spells_back.spells_back.tree) tt

  architecture_written : MakesUnit (architecture limit depth)
  unfolding architecture
  architecture_written u ts n r =
      let xs = r.spells_back in
      let ys = xs.spells_back.spells_back in
      subst UnitIsWritten (sym ys.spells_back.spells_back.tree) (
        repeated_each Declaration HasLiterals (declaration limit depth) [] (declaration_has limit depth) (All-nil HasLiterals) xs.first xs.front xs.front_count xs.spells_front,
        repeated_each Concurrent (λ (c : Concurrent). IsWritten c.statement) (concurrent limit depth) [] (concurrent_written limit depth) (All-nil (λ (c : Concurrent). IsWritten c.statement))
            ys.first ys.front ys.front_count ys.spells_front,
      )

  unit_written : MakesUnit (design_unit limit depth)
  unfolding design_unit
  unit_written u ts n r = ⊎_elim (library_written u ts n) (⊎_elim (use_written u ts n) (⊎_elim (entity_written u ts n) (architecture_written u ts n))) r

  file_written : Makes DesignFile FileIsWritten (design_file limit depth)
  unfolding design_file
  file_written file ts n r =
      subst FileIsWritten (sym r.spells_back.tree)
      (repeated_each DesignUnit UnitIsWritten (design_unit limit depth) [] unit_written (All-nil UnitIsWritten) r.first r.front r.front_count r.spells_front)

pub texts_write_trees : TextsWriteTrees
texts_write_trees levels operators file ts spelled = file_written operators levels file ts spelled.0 spelled.2
