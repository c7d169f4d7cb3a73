-- The scope of an architecture at an instance.
use Rattle.std.proofs.Common.{◌≡◌, ◌<◌, ℕ, zero, suc, List, [], ◌∷◌, length, Option, Some, IfSome, refl, subst}
use Rattle.std.specs.List.{All}
use Rattle.std.proofs.lemmas.List.Elements.{All-nil, All-head, All-tail}
use Rattle.ams_tree.specs.declared.design.Architecture.{Architecture}
use Rattle.ams_tree.specs.declared.design.Entity.{Entity}
use Rattle.flat_design.specs.declared.objects.Objects.{Objects}
use Rattle.name_scope.specs.declared.scope.Scope.{Scope}
use Rattle.unit_meaning.specs.declared.request.Request.{Request}
use Rattle.unit_meaning.specs.declared.site.Site.{Site}
use Rattle.unit_meaning.specs.Settings.{Setting, choosing}
use Rattle.unit_meaning.specs.Units.{setting_of, opened}
use Rattle.unit_meaning.specs.Walk.{Entry, entry_of_instance}
use Rattle.elab_meaning.specs.Notes.{text_of}
use Rattle.design_rules.specs.Types.{sizes_of, equation_scope}
use Rattle.design_rules.specs.Statements.{IsText}
use Rattle.scope_laws.specs.Holds.{StandsBefore}
use Rattle.asked_laws.proofs.Asked.{asked_values_are_known}
use Rattle.allowed_laws.specs.Simple.{HasTexts, SelectorsFit}
use Rattle.made_laws.specs.Made.{ArchitectureStands}
use Rattle.text_laws.specs.Lines.{IsLine}
use Rattle.text_laws.proofs.Lines.{texts_are_lines}
use Rattle.declared_type_laws.specs.Types.{BookHasDeclared}
use Rattle.declared_type_laws.proofs.Whole.{types_are_declared}
use Rattle.concurrent_laws.specs.Concurrent.{CasesStand}
use Rattle.concurrent_laws.proofs.Concurrent.{concurrent_statements_are_made}
use Rattle.architecture_laws.specs.Counts.{has_counted, NamesCount}
use Rattle.architecture_laws.specs.Architectures.{ScopeCounts, ArchitecturesStand}
use Rattle.architecture_laws.proofs.Counts.{names_count, names_counted}
use Rattle.architecture_laws.proofs.Choices.{type_counts, cases_fit, values_fit}

-- ---- texts

text_fits : (texts : List (List ℕ)) → All IsLine texts → (x : ℕ) → IsText (text_of texts x)
text_fits [] h x = All-nil _
text_fits (t ∷ more) h zero = All-head IsLine t more h
text_fits (t ∷ more) h (suc x) = text_fits more (All-tail IsLine t more h) x

-- ---- names

names_at : (final : Objects) (texts : List (List ℕ)) (r : Request) (s : Site) (e : Entity) (a : Architecture) (entry : Entry)
    → 0 < length s.objects.enumerations → entry_of_instance texts r e s ≡ Some entry → StandsBefore (opened texts a entry.book).objects final
    → NamesCount final (setting_of texts (opened texts a entry.book) a) (opened texts a entry.book).scope
names_at final texts r s e a entry some is stands =
    let behind = opened texts a entry.book in
    let declared : BookHasDeclared entry.book = of_some (entry_of_instance texts r e s) entry is (types_are_declared.entry texts r e s some) in
    names_counted final behind.objects.enumerations stands.enumerations behind.scope (types_are_declared.body texts a entry.book declared)
  where
    of_some : (o : Option Entry) (y : Entry) → o ≡ Some y → IfSome o (λ (z : Entry). BookHasDeclared z.book) → BookHasDeclared y.book
    of_some o y same h = subst (λ (q : Option Entry). IfSome q (λ (z : Entry). BookHasDeclared z.book)) same h

module _ (final : Objects) (w : Setting) (scope : Scope) (at : ScopeCounts final w scope) where
  pub cases_stand : CasesStand final w scope
  cases_stand = record {
    values = λ x c n fine. asked_values_are_known.asked (equation_scope final) [] [] w.texts scope x c n at.holds fine;
    counts = λ x n. type_counts final w at.domain scope at.names choosing x n;
  }

  pub stands : SelectorsFit final w scope → HasTexts w → ArchitectureStands final w (has_counted w.enumerations (sizes_of final)) scope
  stands selectors texts = record {
    holds = at.holds;
    selectors = selectors;
    also = at.names;
    texts = texts;
    cases = λ p. cases_fit final w at.domain p;
    values = values_fit final w;
    parameters = λ i. refl;
    faulty = refl;
  }

pub architectures_stand : ArchitecturesStand
architectures_stand = record {
  texts = λ text tokens h x. text_fits tokens.names (texts_are_lines text tokens h) x;
  names = names_at;
  things = λ final w scope h x. names_count w.enumerations (sizes_of final) scope h x;
  choices = λ final w p domain. cases_fit final w domain p;
  values = λ final w. values_fit final w;
  cases = λ final w scope at. cases_stand final w scope at;
  stands = λ final w scope at selectors texts. stands final w scope at selectors texts;
  made = λ final w scope label x n at selectors texts written none room.
      concurrent_statements_are_made final w (has_counted w.enumerations (sizes_of final)) scope label x n (stands final w scope at selectors texts) (cases_stand final w scope at) written none room;
}
