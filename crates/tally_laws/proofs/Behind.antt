-- What a part of the walk leaves of the counts.
use Rattle.std.proofs.Common.{◌≡◌, ◌≤◌, ◌<◌, ℕ, zero, suc, ◌+◌, ◌-◌, nat_eq, Bool, true, false, List, [], ◌∷◌, ◌++◌, length, refl, sym, ap, ◌∙◌, subst, arith}
use Rattle.std.specs.Prelude.{◌≢◌}
use Rattle.std.specs.List.{list_any, All}
use Rattle.std.proofs.lemmas.List.Sums.{sum_by_push}
use Rattle.flat_design.specs.declared.objects.Instance.{Instance}
use Rattle.flat_design.specs.Order.{size_of}
use Rattle.elab_meaning.specs.declared.fault.Notes.{Notes}
use Rattle.unit_meaning.specs.declared.draft.Made.{Made}
use Rattle.unit_meaning.specs.declared.draft.Made.TheVariants as made
use Rattle.unit_meaning.specs.declared.site.Site.{Site}
use Rattle.unit_meaning.specs.Walk.{with_statement}
use Rattle.source_laws.specs.Sources.{uses, Once}
use Rattle.tally_laws.specs.Tally.{made_size, quantity_sum, size_sum, equation_sum, unknown_sum}
use Rattle.tally_laws.proofs.Instances.{unknowns_at}

-- of an instance that has these quantities for ports of mode out: those that are taken are counted no longer
pub record Sourced (n : ℕ) (all : List ℕ) (s : Site) : Type 0 where
  pub room : length all ≤ unknowns_at n s.objects.instances + length (uses n s.used)
  pub once : Once (uses n s.used)
  pub among : All (λ q. list_any (nat_eq q) all ≡ true) (uses n s.used)

-- nothing is taken of instances that aren't there yet
abbrev pub Fresh : Site → Type 0
Fresh s = (n : ℕ) → length s.objects.instances ≤ n → uses n s.used ≡ []

pub record Same (n : ℕ) (s t : Site) : Type 0 where
  pub unknowns : unknowns_at n t.objects.instances ≡ unknowns_at n s.objects.instances
  pub uses_are : uses n t.used ≡ uses n s.used

pub same_sourced : (n : ℕ) (all : List ℕ) (s t : Site) → Same n s t → Sourced n all s → Sourced n all t
same_sourced n all s t k h =
    record {
      room =
          subst (λ (l : List ℕ). length all ≤ unknowns_at n t.objects.instances + length l) (sym k.uses_are)
          (subst (λ (m : ℕ). length all ≤ m + length (uses n s.used)) (sym k.unknowns) h.room);
      once = subst Once (sym k.uses_are) h.once;
      among = subst (λ (l : List ℕ). All (λ q. list_any (nat_eq q) all ≡ true) l) (sym k.uses_are) h.among;
    }

pub same_on : (n : ℕ) (s u t : Site) → Same n s u → Same n u t → Same n s t
same_on n s u t p q = record { unknowns = q.unknowns ∙ p.unknowns; uses_are = q.uses_are ∙ p.uses_are }

-- between two sites, of which the later one has so many equations that were counted before
pub record Behind (w outer : ℕ) (all : List ℕ) (s t : Site) : Type 0 where
  pub equations : equation_sum t.objects.instances + size_sum s.objects.equations + w ≡ equation_sum s.objects.instances + size_sum t.objects.equations
  pub unknowns : unknown_sum t.objects.instances + quantity_sum s.objects.quantities ≡ unknown_sum s.objects.instances + quantity_sum t.objects.quantities
  pub fresh : Fresh t
  pub longer : length s.objects.instances ≤ length t.objects.instances
  pub own : outer < length s.objects.instances → Sourced outer all t
  pub others : (n : ℕ) → n < length s.objects.instances → n ≢ outer → Same n s t

pub behind_same : (outer : ℕ) (all : List ℕ) (s : Site) → Fresh s → Sourced outer all s → Behind 0 outer all s s
behind_same outer all s f h =
    record {
      equations = omega arith;
      unknowns = omega arith;
      fresh = f;
      longer = omega arith;
      own = λ lt. h;
      others = λ n lt d. record { unknowns = refl; uses_are = refl };
    }

pub behind_on : (v w outer : ℕ) (all : List ℕ) (s u t : Site) → Behind v outer all s u → Behind w outer all u t → Behind (v + w) outer all s t
behind_on v w outer all s u t p q =
    record {
      equations = omega (arith, p.equations, q.equations);
      unknowns = omega (arith, p.unknowns, q.unknowns);
      fresh = q.fresh;
      longer = omega (arith, p.longer, q.longer);
      own = λ lt. q.own (omega (arith, p.longer, lt));
      others = λ n lt d. same_on n s u t (p.others n lt d) (q.others n (omega (arith, p.longer, lt)) d);
    }

pub behind_as : (v w outer : ℕ) (all : List ℕ) (s t : Site) → v ≡ w → Behind v outer all s t → Behind w outer all s t
behind_as v w outer all s t e p = subst (λ (n : ℕ). Behind n outer all s t) e p

-- ---- a statement

pub behind_made : (outer : ℕ) (all : List ℕ) (n : Notes) (m : Made) (s : Site) → Fresh s → Sourced outer all s → Behind (made_size m) outer all s (with_statement (n, m) s)
behind_made outer all n (made.Process p) s f h =
    record {
      equations = omega arith;
      unknowns = omega arith;
      fresh = f;
      longer = omega arith;
      own = λ lt. record { room = h.room; once = h.once; among = h.among };
      others = λ i lt d. record { unknowns = refl; uses_are = refl };
    }
behind_made outer all n (made.Equation q) s f h =
    record {
      equations = omega (arith, sum_by_push size_of s.objects.equations q);
      unknowns = omega arith;
      fresh = f;
      longer = omega arith;
      own = λ lt. record { room = h.room; once = h.once; among = h.among };
      others = λ i lt d. record { unknowns = refl; uses_are = refl };
    }
behind_made outer all n made.Nothing s f h =
    record {
      equations = omega arith;
      unknowns = omega arith;
      fresh = f;
      longer = omega arith;
      own = λ lt. record { room = h.room; once = h.once; among = h.among };
      others = λ i lt d. record { unknowns = refl; uses_are = refl };
    }
