-- The walk, and the design that it leaves.
use Rattle.std.proofs.Common.{◌≡◌, ◌≤◌, ◌<◌, ℕ, false, List, [], ◌∷◌, length, Option, Some, None, Result, Ok, Err, IsTrue, refl, sym, subst, arith}
use Rattle.std.specs.Prelude.{Bool, ◌≢◌, codes}
use Rattle.std.specs.List.{All, AllPairs, Contains}
use Rattle.std.proofs.lemmas.List.Elements.{All-nil, All-cons}
use Rattle.ams_tree.specs.declared.design.DesignUnit.{DesignUnit}
use Rattle.flat_design.specs.Limits.{unknown_limit, threshold_limit, instance_limit}
use Rattle.flat_design.specs.Lists.{same_threshold}
use Rattle.flat_design.specs.declared.objects.Enumeration.{Enumeration}
use Rattle.flat_design.specs.declared.objects.Objects.{Objects}
use Rattle.flat_design.specs.declared.objects.Threshold.{Threshold}
use Rattle.unit_meaning.specs.declared.request.Request.{Request}
use Rattle.unit_meaning.specs.declared.site.Site.{Site}
use Rattle.unit_meaning.specs.Walk.{first_site, top_request, request_of, enter, walked}
use Rattle.design_rules.specs.Equations.{IsEquation}
use Rattle.design_rules.specs.Design.{domain_type, literal_limit, enumeration_limit, IsSignal, IsQuantity, IsEnumeration, IsProcess, IsThreshold}
use Rattle.declaration_laws.specs.Books.{ObjectsHold}
use Rattle.interface_laws.proofs.Whole.{interfaces_hold}
use Rattle.object_laws.proofs.Adding.{extends_same}
use Rattle.walk_laws.proofs.Induction.{WalkRules, walk_keeps, no_answer}
use Rattle.site_laws.proofs.Fronts.{same_front}
use Rattle.checked_laws.specs.Checked.{HasDrivers}
use Rattle.site_invariant_laws.specs.Sites.{NotedHolds, SiteHolds}
use Rattle.site_invariant_laws.specs.Premises.{Premises}
use Rattle.site_invariant_laws.specs.Laws.{SitesHold}
use Rattle.site_invariant_laws.proofs.Statements.{Starts, EnterHolds, Enters, Runs, nothing_more, behind_instance, behind_none, behind_statement}
use Rattle.site_invariant_laws.proofs.Bodies.{behind_body}

-- ---- the beginning

none_two : {A : Type 0} (R : A → A → Type 0) → AllPairs R []
none_two R i j d less lt = absurd (omega arith)

abbrev Short : List ℕ → Type 0
Short name = length name ≤ literal_limit

short : (name : List ℕ) (n : ℕ) → length name ≡ n → n ≤ 64 → Short name
short name n is h = subst (λ (k : ℕ). k ≤ literal_limit) (sym is) h

none_within : (n : ℕ) → 0 ≤ n
none_within n = omega arith

three_within : 3 ≤ enumeration_limit
three_within = omega arith

one_within : 1 ≤ enumeration_limit
one_within = omega arith

domain_is : IsEnumeration domain_type
domain_is =
    record {
      count = three_within;
      literals =
          All-cons Short (codes "quiescent_domain") (codes "time_domain" ∷ codes "frequency_domain" ∷ []) (short (codes "quiescent_domain") 16 refl (omega arith))
          (All-cons Short (codes "time_domain") (codes "frequency_domain" ∷ []) (short (codes "time_domain") 11 refl (omega arith))
          (All-cons Short (codes "frequency_domain") [] (short (codes "frequency_domain") 16 refl (omega arith)) (All-nil Short)));
    }

module _ (final : Objects) where
  first_objects_hold : ObjectsHold final first_site.objects
  first_objects_hold =
      record {
        signals = All-nil (IsSignal final);
        quantities = All-nil (IsQuantity final);
        enumerations = All-cons IsEnumeration domain_type [] domain_is (All-nil IsEnumeration);
        enumeration_count = one_within;
      }

  first_counted : NotedHolds final first_site
  first_counted =
      record {
        noted =
            record {
              dots = All-nil (λ (q : ℕ). q < length final.quantities);
              dots_once = none_two (λ (a b : ℕ). a ≢ b);
              thresholds = All-nil (IsThreshold final);
              thresholds_once = none_two (λ (a b : Threshold). same_threshold a b ≡ false);
            };
        dots = All-nil (Contains {X = ℕ} []);
        thresholds = All-nil (Contains {X = Threshold} []);
        dot_limit = none_within unknown_limit;
        threshold_limit_kept = none_within threshold_limit;
      }

  first_holds : SiteHolds final first_site
  first_holds =
      record {
        objects = first_objects_hold;
        equations = All-nil (IsEquation final);
        processes = All-nil (IsProcess final);
        drivers = All-nil (HasDrivers final);
        counted = first_counted;
      }

-- ---- the walk

module _ (texts : List (List ℕ)) (units : List DesignUnit) (final : Objects) (Q : Request → Type 0) (premises : Premises texts units final Q) where
  rules : WalkRules texts units (Enters final units Q) (Runs final units Q)
  rules =
      record {
        nothing = nothing_more final units Q;
        instance = λ at c more x i s u t l k p q. behind_instance final units Q premises.make at c more x i k s u t p q;
        unlabelled = λ at c more i s t l k q. behind_none final units Q premises.make at c more i k s t q;
        statement = λ at c more s t plain q. behind_statement final units Q premises.make at c more plain s t q;
        body = λ r s t e a entry h q. behind_body texts units final Q premises r s t e a entry h q;
      }

-- whatever the rule of requests is
pub site_holds : (texts : List (List ℕ)) (units : List DesignUnit) (top : List ℕ) (x : Option ℕ) (s : Site) (Q : Request → Type 0)
    → Premises texts units s.objects Q → walked texts units top x ≡ Ok s → SiteHolds s.objects s
site_holds texts units top None s Q premises h = no_answer _ s h
site_holds texts units top (Some x) s Q premises h =
    let final = s.objects in
    let k : Enters final units Q (top_request top x) first_site s =
    walk_keeps texts units (Enters final units Q) (Runs final units Q) (rules texts units final Q premises) instance_limit [] (top_request top x) first_site s h in
    let whole : EnterHolds final units Q first_site s =
    k.holds (record { objects = first_objects_hold final; domain = extends_same Enumeration (domain_type ∷ []); counted = first_counted final })
    (interfaces_hold.top final top x) (premises.instances.top top x) (same_front final) in
    whole.site (record { dots = extends_same ℕ final.dots; thresholds = extends_same Threshold final.thresholds }) (first_holds final)

pub sites_hold : SitesHold
sites_hold texts units top x s keeps premises h = site_holds texts units top x s (λ r. IsTrue (keeps r)) premises h
