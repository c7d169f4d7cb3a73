-- What the statements of an architecture note, from the answers of the calls that read them.
use Rattle.std.proofs.Common.{◌≡◌, ℕ, List, Result, Ok, Err, OnOk, ap, ◌∙◌}
use Rattle.std.specs.List.{fold}
use Rattle.ams_tree.specs.declared.concurrent.Concurrent.{Concurrent}
use Rattle.ams_tree.specs.declared.design.Architecture.{Architecture}
use Rattle.ams_tree.specs.declared.design.DesignUnit.{DesignUnit}
use Rattle.flat_design.specs.declared.objects.Enumeration.{Enumeration}
use Rattle.name_scope.specs.declared.scope.Scope.{Scope}
use Rattle.elab_meaning.specs.declared.book.Book.{Book}
use Rattle.elab_meaning.specs.declared.fault.Notes.{Notes}
use Rattle.elab_meaning.specs.Declarations.{with_notes}
use Rattle.unit_meaning.specs.Settings.{Setting}
use Rattle.unit_meaning.specs.Simultaneous.{selectors_of}
use Rattle.unit_meaning.specs.Units.{start_of, setting_of, judged_statement, judged_body}

-- of two facts about a call that went well
pub from_both : {A E : Type 0} {P Q R : Type 0} (r : Result A E) → (P → Q → R) → OnOk r P → OnOk r Q → OnOk r R
from_both (Ok a) f p q = f p q
from_both (Err e) f p q = p

setting : List (List ℕ) → List Enumeration → List ℕ → Setting
setting texts enumerations selectors = record { texts = texts; enumerations = enumerations; selectors = selectors }

pub setting_is : (texts : List (List ℕ)) (b : Book) (a : Architecture) (w : Setting) (enumerations : List Enumeration) (slice selectors : List ℕ) (all : List Concurrent)
    → w ≡ record { texts = texts; enumerations = enumerations; selectors = slice } → enumerations ≡ b.objects.enumerations → slice ≡ selectors → selectors ≡ selectors_of all → all ≡ a.statements
    → w ≡ setting_of texts b a
unfolding setting
setting_is texts b a w enumerations slice selectors all is e s d h =
    is ∙ (ap (λ es. setting texts es slice) e ∙ ap (λ xs. setting texts b.objects.enumerations xs) (s ∙ (d ∙ ap selectors_of h)))

behind : Book → Scope → Notes → Book
behind b scope notes = record b { scope = scope; notes = notes }

pub body_is : (texts : List (List ℕ)) (units : List DesignUnit) (a : Architecture) (b : Book) (start scope : Scope) (notes : Notes) (w : Setting) (all : List Concurrent)
    → w ≡ setting_of texts b a → start ≡ start_of texts → all ≡ a.statements → notes ≡ fold (judged_statement w start units b.scope) b.notes all → scope ≡ b.scope
    → record b { scope = scope; notes = notes } ≡ with_notes (judged_body texts units a b) b
unfolding behind
body_is texts units a b start scope notes w all is starts h noted same =
    ap (λ s. behind b s notes) same
    ∙ ap (behind b b.scope)
    (noted
    ∙ (ap (λ v. fold (judged_statement v start units b.scope) b.notes all) is
    ∙ (ap (λ s. fold (judged_statement (setting_of texts b a) s units b.scope) b.notes all) starts
    ∙ ap (fold (judged_statement (setting_of texts b a) (start_of texts) units b.scope) b.notes) h)))
