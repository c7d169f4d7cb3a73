-- Two readings of one text: what they have in common, step by step.
use Rattle.std.proofs.Common.{◌≡◌, ◌≢◌, ◌≤◌, ◌<◌, ◌⊎◌, inl, inr, ⊎_elim, ℕ, ℤ, Bool, true, false, if◌then◌else◌, List, length, refl, sym, ◌∙◌, subst, int_eq, arith}
use Rattle.std.specs.Prelude.{◌&&◌, nat_eq, nat_le}
use Rattle.std.specs.List.{All, AllPairs, Contains}
use Rattle.std.proofs.lemmas.Bool.Decides.{nat_tests, Decides-int_eq}
use Rattle.ams_token.specs.declared.token.Place.{Place}
use Rattle.flat_design.specs.Limits.{unknown_limit, threshold_limit}
use Rattle.flat_design.specs.Lists.{with_dot, with_threshold, same_threshold}
use Rattle.flat_design.specs.declared.objects.Objects.{Objects}
use Rattle.flat_design.specs.declared.objects.Threshold.{Threshold}
use Rattle.elab_meaning.specs.declared.fault.Cause.{Cause}
use Rattle.elab_meaning.specs.declared.fault.Notes.{Notes}
use Rattle.elab_meaning.specs.declared.typed.Context.{Context}
use Rattle.elab_meaning.specs.declared.fault.Cause.TheVariants.{NotStatic}
use Rattle.elab_meaning.specs.Notes.{noted, changing, dotted, watched}
use Rattle.design_rules.specs.Design.{IsThreshold}
use Rattle.reading_laws.specs.Growing.{Grows}
use Rattle.reading_laws.proofs.Growing.{grows_same, grows_on, grows_noted, grows_changing, grows_dotted, grows_watched}
use Rattle.note_laws.specs.Noting.{AreNoted, NotesAlike}
use Rattle.note_laws.proofs.Members.{member_cases, member_there, member_all, member_pairs, contains_further, no_shorter}

-- the notes behind have the same dots and thresholds
pub record SameLists (n on : Notes) : Type 0 where
  pub dots : on.dots ≡ n.dots
  pub thresholds : on.thresholds ≡ n.thresholds

pub lists_same : (n : Notes) → SameLists n n
lists_same n = record { dots = refl; thresholds = refl }

pub lists_noted : (place : Place) (cause : Cause) (n : Notes) → SameLists n (noted place cause n)
lists_noted place cause n = record { dots = refl; thresholds = refl }

pub lists_changing : (c : Context) (place : Place) (n : Notes) → SameLists n (changing c place n)
lists_changing c place n = go c.is_static
  where
    go : (b : Bool) → SameLists n (if b then noted place NotStatic n else n)
    go true = lists_noted place NotStatic n
    go false = lists_same n

pub lists_on : (a b c : Notes) → SameLists a b → SameLists b c → SameLists a c
lists_on a b c h g = record { dots = g.dots ∙ h.dots; thresholds = g.thresholds ∙ h.thresholds }

-- ---- dots and thresholds

same_number : (a b : ℕ) → nat_eq a b ≡ true → a ≡ b
same_number a b h = grind (arith, nat_tests)

other_number : (a b : ℕ) → nat_eq a b ≡ false → a ≢ b
other_number a b h is = grind (arith, nat_tests)

too_long : (k n : ℕ) → nat_le k n ≡ false → k ≤ n → ⊥
too_long k n is h = grind (arith, nat_tests)

first_true : (a b : Bool) → (a && b) ≡ true → a ≡ true
first_true true b h = refl
first_true false b h = absurd (cc)

second_true : (a b : Bool) → (a && b) ≡ true → b ≡ true
second_true true b h = h
second_true false b h = absurd (cc)

alike_is : (a b : Threshold) → same_threshold a b ≡ true → a ≡ b
alike_is a b h =
    let one : a.quantity ≡ b.quantity = same_number a.quantity b.quantity (first_true (nat_eq a.quantity b.quantity) (int_eq a.level b.level) h) in
    let two : a.level ≡ b.level = level_is (second_true (nat_eq a.quantity b.quantity) (int_eq a.level b.level) h) in
    subst (λ (q : ℕ). a ≡ record { quantity = q; level = b.level }) one (subst (λ (z : ℤ). a ≡ record { quantity = a.quantity; level = z }) two refl)
  where
    level_is : int_eq a.level b.level ≡ true → a.level ≡ b.level
    level_is e = (Decides-int_eq a.level b.level).0 e

module _ (objects : Objects) where
  abbrev pub Alike : Notes → Notes → Notes → Notes → Type 0
  Alike n m on to = NotesAlike objects n m on to

  pub alike_same : (n m : Notes) → Alike n m n m
  alike_same n m = record { grows = grows_same n; also_grows = grows_same m; kept = λ h. h; dots = λ short q c. inl c; thresholds = λ short h c. inl c }

  -- a reading that notes only faults
  pub alike_quiet : (n m on to : Notes) → Grows n on → Grows m to → SameLists n on → Alike n m on to
  alike_quiet n m on to goes also same =
      record {
        grows = goes;
        also_grows = also;
        kept = λ h. record {
          dots = subst (All (λ q. q < length objects.quantities)) (sym same.dots) h.dots;
          dots_once = subst (AllPairs (λ a b. a ≢ b)) (sym same.dots) h.dots_once;
          thresholds = subst (All (IsThreshold objects)) (sym same.thresholds) h.thresholds;
          thresholds_once = subst (AllPairs (λ a b. same_threshold a b ≡ false)) (sym same.thresholds) h.thresholds_once;
        };
        dots = λ short q c. inl (subst (λ (l : List ℕ). Contains l q) same.dots c);
        thresholds = λ short h c. inl (subst (λ (l : List Threshold). Contains l h) same.thresholds c);
      }

  pub alike_noted : (place : Place) (cause : Cause) (n m : Notes) → Alike n m (noted place cause n) (noted place cause m)
  alike_noted place cause n m = alike_quiet n m (noted place cause n) (noted place cause m) (grows_noted place cause n) (grows_noted place cause m) (lists_noted place cause n)

  pub alike_changing : (c : Context) (place : Place) (n m : Notes) → Alike n m (changing c place n) (changing c place m)
  alike_changing c place n m = alike_quiet n m (changing c place n) (changing c place m) (grows_changing c place n) (grows_changing c place m) (lists_changing c place n)

  pub alike_on : (n m on to up over : Notes) → Alike n m on to → Alike on to up over → Alike n m up over
  alike_on n m on to up over h g =
      record {
        grows = grows_on n on up h.grows g.grows;
        also_grows = grows_on m to over h.also_grows g.also_grows;
        kept = λ k. g.kept (h.kept k);
        dots = λ short q c.
            let before : length to.dots ≤ unknown_limit = let more : length to.dots ≤ length over.dots = no_shorter ℕ to.dots over.dots g.also_grows.dots in omega arith in
            ⊎_elim
            (λ old. ⊎_elim (λ first. inl first) (λ there. inr (contains_further ℕ to.dots over.dots g.also_grows.dots q there)) (h.dots before q old))
            (λ new. inr new) (g.dots short q c);
        thresholds = λ short q c.
            let before : length to.thresholds ≤ threshold_limit = let more : length to.thresholds ≤ length over.thresholds = no_shorter Threshold to.thresholds over.thresholds g.also_grows.thresholds in omega arith in
            ⊎_elim
            (λ old. ⊎_elim (λ first. inl first) (λ there. inr (contains_further Threshold to.thresholds over.thresholds g.also_grows.thresholds q there)) (h.thresholds before q old))
            (λ new. inr new) (g.thresholds short q c);
      }

  -- ---- a dot

  abbrev DotAt : Bool → ℕ → Notes → Notes
  DotAt b q n = if b then record { faults = n.faults; dots = with_dot q n.dots; thresholds = n.thresholds } else n

  dot_kept : (q : ℕ) (n : Notes) → q < length objects.quantities → AreNoted objects n → AreNoted objects (dotted q n)
  unfolding dotted
  dot_kept q n there h = go (nat_le (length n.dots) unknown_limit)
    where
      go : (b : Bool) → AreNoted objects (DotAt b q n)
      go true =
          record {
            dots = member_all ℕ (λ other. nat_eq other q) q (λ q. q < length objects.quantities) n.dots h.dots there;
            dots_once = member_pairs ℕ (λ other. nat_eq other q) q (λ a b. a ≢ b) (λ y apart. other_number y q apart) n.dots h.dots_once;
            thresholds = h.thresholds;
            thresholds_once = h.thresholds_once;
          }
      go false = h

  dot_cases : (q : ℕ) (n : Notes) (x : ℕ) → Contains (dotted q n).dots x → Contains n.dots x ⊎ (q ≡ x)
  unfolding dotted
  dot_cases q n x = go (nat_le (length n.dots) unknown_limit)
    where
      go : (b : Bool) → Contains (DotAt b q n).dots x → Contains n.dots x ⊎ (q ≡ x)
      go true c = member_cases ℕ (λ other. nat_eq other q) q n.dots x c
      go false c = inl c

  dot_there : (q : ℕ) (n : Notes) → length (dotted q n).dots ≤ unknown_limit → Contains (dotted q n).dots q
  unfolding dotted
  dot_there q n = go (nat_le (length n.dots) unknown_limit) refl
    where
      go : (b : Bool) → nat_le (length n.dots) unknown_limit ≡ b → length (DotAt b q n).dots ≤ unknown_limit → Contains (DotAt b q n).dots q
      go true is short = member_there ℕ (λ other. nat_eq other q) q (λ y same. same_number y q same) n.dots
      go false is short = absurd (too_long (length n.dots) unknown_limit is short)

  dot_thresholds : (q : ℕ) (n : Notes) → (dotted q n).thresholds ≡ n.thresholds
  unfolding dotted
  dot_thresholds q n = go (nat_le (length n.dots) unknown_limit)
    where
      go : (b : Bool) → (DotAt b q n).thresholds ≡ n.thresholds
      go true = refl
      go false = refl

  pub alike_dotted : (q : ℕ) (n m : Notes) → q < length objects.quantities → Alike n m (dotted q n) (dotted q m)
  alike_dotted q n m there =
      record {
        grows = grows_dotted q n;
        also_grows = grows_dotted q m;
        kept = dot_kept q n there;
        dots = λ short x c. ⊎_elim (λ old. inl old) (λ is. inr (subst (Contains (dotted q m).dots) is (dot_there q m short))) (dot_cases q n x c);
        thresholds = λ short h c. inl (subst (λ (l : List Threshold). Contains l h) (dot_thresholds q n) c);
      }

  -- ---- a threshold

  abbrev WatchedAt : Bool → Threshold → Notes → Notes
  WatchedAt b h n = if b then record { faults = n.faults; dots = n.dots; thresholds = with_threshold h n.thresholds } else n

  watch_kept : (h : Threshold) (n : Notes) → IsThreshold objects h → AreNoted objects n → AreNoted objects (watched h n)
  unfolding watched
  watch_kept h n there k = go (nat_le (length n.thresholds) threshold_limit)
    where
      go : (b : Bool) → AreNoted objects (WatchedAt b h n)
      go true =
          record {
            dots = k.dots;
            dots_once = k.dots_once;
            thresholds = member_all Threshold (λ other. same_threshold other h) h (IsThreshold objects) n.thresholds k.thresholds there;
            thresholds_once = member_pairs Threshold (λ other. same_threshold other h) h (λ a b. same_threshold a b ≡ false) (λ y apart. apart) n.thresholds k.thresholds_once;
          }
      go false = k

  watch_cases : (h : Threshold) (n : Notes) (x : Threshold) → Contains (watched h n).thresholds x → Contains n.thresholds x ⊎ (h ≡ x)
  unfolding watched
  watch_cases h n x = go (nat_le (length n.thresholds) threshold_limit)
    where
      go : (b : Bool) → Contains (WatchedAt b h n).thresholds x → Contains n.thresholds x ⊎ (h ≡ x)
      go true c = member_cases Threshold (λ other. same_threshold other h) h n.thresholds x c
      go false c = inl c

  watch_there : (h : Threshold) (n : Notes) → length (watched h n).thresholds ≤ threshold_limit → Contains (watched h n).thresholds h
  unfolding watched
  watch_there h n = go (nat_le (length n.thresholds) threshold_limit) refl
    where
      go : (b : Bool) → nat_le (length n.thresholds) threshold_limit ≡ b → length (WatchedAt b h n).thresholds ≤ threshold_limit → Contains (WatchedAt b h n).thresholds h
      go true is short = member_there Threshold (λ other. same_threshold other h) h (λ y same. alike_is y h same) n.thresholds
      go false is short = absurd (too_long (length n.thresholds) threshold_limit is short)

  watch_dots : (h : Threshold) (n : Notes) → (watched h n).dots ≡ n.dots
  unfolding watched
  watch_dots h n = go (nat_le (length n.thresholds) threshold_limit)
    where
      go : (b : Bool) → (WatchedAt b h n).dots ≡ n.dots
      go true = refl
      go false = refl

  pub alike_watched : (h : Threshold) (n m : Notes) → IsThreshold objects h → Alike n m (watched h n) (watched h m)
  alike_watched h n m there =
      record {
        grows = grows_watched h n;
        also_grows = grows_watched h m;
        kept = watch_kept h n there;
        dots = λ short q c. inl (subst (λ (l : List ℕ). Contains l q) (watch_dots h n) c);
        thresholds = λ short x c. ⊎_elim (λ old. inl old) (λ is. inr (subst (Contains (watched h m).thresholds) is (watch_there h m short))) (watch_cases h n x c);
      }
