-- What the invariant of a site asks for.
use Rattle.std.proofs.Common.{◌≡◌, ◌<◌, ℕ, List, length, None, refl, sym, subst, arith}
use Rattle.ams_token.specs.declared.tokens.Tokens.{Tokens}
use Rattle.ams_tree.specs.declared.design.DesignFile.{DesignFile}
use Rattle.flat_design.specs.declared.objects.Enumeration.{Enumeration}
use Rattle.flat_design.specs.declared.objects.Objects.{Objects}
use Rattle.unit_meaning.specs.declared.draft.Made.{Made}
use Rattle.unit_meaning.specs.declared.draft.Made.TheVariants as made
use Rattle.unit_meaning.specs.Units.{type_fault, nature_fault, opened, setting_of}
use Rattle.design_rules.specs.Types.{sizes_of}
use Rattle.written_laws.proofs.Files.{texts_write_trees}
use Rattle.concurrent_laws.specs.Concurrent.{IsMade as IsMadeAlready}
use Rattle.concurrent_laws.proofs.Concurrent.{concurrent_statements_are_made}
use Rattle.architecture_laws.specs.Counts.{has_counted}
use Rattle.architecture_laws.proofs.Whole.{architectures_stand}
use Rattle.site_invariant_laws.specs.Sites.{HasDomain}
use Rattle.site_invariant_laws.specs.Premises.{IsMade, StatementsMake, Premises}
use Rattle.accepted_laws.specs.Accepted.{IsFileOf}
use Rattle.accepted_laws.proofs.Instances.{Fits, instances_are_fine}
use Rattle.accepted_laws.proofs.Readings.{readings_kept}
use Rattle.accepted_laws.proofs.Selectors.{selectors_follow}

same_made : (objects : Objects) (m : Made) → IsMadeAlready objects m → IsMade objects m
same_made objects (made.Process p) k = k
same_made objects (made.Equation q) k = k
same_made objects made.Nothing k = tt

statements_make : (final : Objects) → StatementsMake final
statements_make final w Also scope label x n stands cases written none room =
    let found = concurrent_statements_are_made final w Also scope label x n stands (record { values = cases.values; counts = cases.counts }) written none room in
    same_made final _ found

has_first : (objects : Objects) → HasDomain objects → 0 < length objects.enumerations
has_first objects h = subst (λ (l : List Enumeration). 0 < length l) (sym h.whole) (omega arith)

module _ (text : List ℕ) (tokens : Tokens) (file : DesignFile) (is : IsFileOf text tokens file) where
  pub premises : (final : Objects) → type_fault tokens.names file.units ≡ None → nature_fault tokens.names file.units ≡ None → Premises tokens.names file.units final (Fits file.units)
  premises final types natures =
      let texts = tokens.names in
      record {
        instances = instances_are_fine texts file.units types natures;
        make = statements_make final;
        written = texts_write_trees is.levels is.operators file tokens.list.items is.spells;
        texts_fit = architectures_stand.texts text tokens is.has;
        counts = λ r s e a entry h domain none stands.
            let b = opened texts a entry.book in
            let w = setting_of texts b a in
            architectures_stand.things final w b.scope (architectures_stand.names final texts r s e a entry (has_first s.objects domain) h.entry_is stands);
        processes = λ r s e a entry h domain none stands counted holds.
            let b = opened texts a entry.book in
            let w = setting_of texts b a in
            record {
              Also = has_counted w.enumerations (sizes_of final);
              names = architectures_stand.names final texts r s e a entry (has_first s.objects domain) h.entry_is stands;
              cases = λ p. architectures_stand.choices final w p counted;
              values = architectures_stand.values final w;
              parameters = λ i. refl;
              faulty = refl;
            };
        selectors = λ r s e a entry h none holds made.
            let b = opened texts a entry.book in
            selectors_follow final (setting_of texts b a) b.scope a.statements (readings_kept texts file.units r s e a entry h none) refl made;
      }
