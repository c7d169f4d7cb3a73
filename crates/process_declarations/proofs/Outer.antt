-- Declarations of a process leave the regions round it as they were.
use Rattle.std.proofs.Common.{◌≡◌, ℕ, List, [], ◌∷◌, Some, refl, sym, ap, ◌∙◌}
use Rattle.std.specs.List.{fold}
use Rattle.ams_tree.specs.declared.expression.Name.{Name}
use Rattle.ams_tree.specs.declared.declaration.ProcessDeclaration.{ProcessDeclaration}
use Rattle.ams_tree.specs.declared.declaration.ProcessDeclaration.TheVariants as declare
use Rattle.name_scope.specs.declared.scope.Scope.{Scope}
use Rattle.elab_meaning.specs.declared.part.Part.{Part}
use Rattle.elab_meaning.specs.declared.part.Part.TheVariants.{Kept, Wrong, Hidden}
use Rattle.elab_meaning.specs.declared.typed.Valued.{Valued}
use Rattle.elab_meaning.specs.Subtypes.{valued}
use Rattle.unit_meaning.specs.Processes.{Declared, variable, constant, faulty, each_of, process_declaration}
use Rattle.process_declarations.specs.declared.part.DeclarativePart.{DeclarativePart}
use Rattle.process_declarations.specs.Parts.{declared_at}

each_outer : (rule : Declared → Name → Declared) → ((s : Declared) (x : Name) → (rule s x).scope.outer ≡ s.scope.outer) → (names : List Name) (s : Declared) → (fold rule s names).scope.outer ≡ s.scope.outer
each_outer rule h [] s = refl
each_outer rule h (x ∷ names) s = each_outer rule h names (rule s x) ∙ h s x

part_outer : (rule : Valued → Declared → Name → Declared) → ((v : Valued) (s : Declared) (x : Name) → (rule v s x).scope.outer ≡ s.scope.outer) → (part : Part Valued) (names : List Name) (s : Declared) → (each_of rule part names s).scope.outer ≡ s.scope.outer
part_outer rule h (Kept v) names s = each_outer (rule v) (h v) names s
part_outer rule h Wrong names s = each_outer faulty (λ r x. refl) names s
part_outer rule h Hidden names s = each_outer faulty (λ r x. refl) names s

declaration_outer : (texts : List (List ℕ)) (s : Declared) (d : ProcessDeclaration) → (process_declaration texts s d).scope.outer ≡ s.scope.outer
declaration_outer texts s (declare.Variable place names i x) = part_outer (variable texts) (λ v r y. refl) (valued texts s.scope i x s.draft.notes).1 names _
declaration_outer texts s (declare.Constant place names i x) = part_outer constant (λ v r y. refl) (valued texts s.scope i (Some x) s.draft.notes).1 names _

outer_kept : (texts : List (List ℕ)) (all : List ProcessDeclaration) (s : Declared) → (fold (process_declaration texts) s all).scope.outer ≡ s.scope.outer
outer_kept texts [] s = refl
outer_kept texts (d ∷ all) s = outer_kept texts all (process_declaration texts s d) ∙ declaration_outer texts s d

-- in a loop over the declarations
pub still_outer : (texts : List (List ℕ)) (all more : List ProcessDeclaration) (before after : Scope) (first read : DeclarativePart)
    → fold (process_declaration texts) (declared_at after read) more ≡ fold (process_declaration texts) (declared_at before first) all
    → after.outer ≡ before.outer
still_outer texts all more before after first read told =
    sym (outer_kept texts more (declared_at after read)) ∙ (ap (λ (s : Declared). s.scope.outer) told ∙ outer_kept texts all (declared_at before first))
