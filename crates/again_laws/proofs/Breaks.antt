-- Faults that two readings of one text add.
use Rattle.std.proofs.Common.{◌≡◌, ℕ, Bool, true, false, if◌then◌else◌, List, [], ◌∷◌, ◌++◌, length, append_assoc, append-nil, refl, sym, ap, ◌∙◌}
use Rattle.std.specs.Prelude.{nat_le}
use Rattle.ams_token.specs.declared.token.Place.{Place}
use Rattle.flat_design.specs.Limits.{unknown_limit, threshold_limit}
use Rattle.flat_design.specs.Lists.{with_dot, with_threshold}
use Rattle.flat_design.specs.declared.objects.Threshold.{Threshold}
use Rattle.elab_meaning.specs.declared.fault.Cause.{Cause}
use Rattle.elab_meaning.specs.declared.fault.Cause.TheVariants.{NotStatic}
use Rattle.elab_meaning.specs.declared.fault.Fault.{Fault}
use Rattle.elab_meaning.specs.declared.fault.Notes.{Notes}
use Rattle.elab_meaning.specs.declared.typed.Context.{Context}
use Rattle.elab_meaning.specs.Notes.{noted, changing, dotted, watched}
use Rattle.again_laws.specs.Again.{BreaksAlike}

-- a step that breaks nothing
pub breaks_none : (n m on to : Notes) → on.faults ≡ n.faults → to.faults ≡ m.faults → BreaksAlike n m on to
breaks_none n m on to h k = record { more = []; first = h ∙ sym (append-nil n.faults); second = k ∙ sym (append-nil m.faults) }

pub breaks_same : (n m : Notes) → BreaksAlike n m n m
breaks_same n m = breaks_none n m n m refl refl

pub breaks_noted : (place : Place) (cause : Cause) (n m : Notes) → BreaksAlike n m (noted place cause n) (noted place cause m)
breaks_noted place cause n m = record { more = record { place = place; cause = cause } ∷ []; first = refl; second = refl }

pub breaks_changing : (c : Context) (place : Place) (n m : Notes) → BreaksAlike n m (changing c place n) (changing c place m)
breaks_changing c place n m = go c.is_static
  where
    go : (b : Bool) → BreaksAlike n m (if b then noted place NotStatic n else n) (if b then noted place NotStatic m else m)
    go true = breaks_noted place NotStatic n m
    go false = breaks_same n m

pub breaks_on : (n m a b on to : Notes) → BreaksAlike n m a b → BreaksAlike a b on to → BreaksAlike n m on to
breaks_on n m a b on to p q =
    record {
      more = p.more ++ q.more;
      first = q.first ∙ (ap (λ (l : List Fault). l ++ q.more) p.first ∙ append_assoc n.faults p.more q.more);
      second = q.second ∙ (ap (λ (l : List Fault). l ++ q.more) p.second ∙ append_assoc m.faults p.more q.more);
    }

dot_faults : (q : ℕ) (n : Notes) → (dotted q n).faults ≡ n.faults
unfolding dotted
dot_faults q n = go (nat_le (length n.dots) unknown_limit)
  where
    go : (b : Bool) → (if b then record { faults = n.faults; dots = with_dot q n.dots; thresholds = n.thresholds } else n).faults ≡ n.faults
    go true = refl
    go false = refl

pub breaks_dotted : (q : ℕ) (n m : Notes) → BreaksAlike n m (dotted q n) (dotted q m)
breaks_dotted q n m = breaks_none n m (dotted q n) (dotted q m) (dot_faults q n) (dot_faults q m)

watch_faults : (h : Threshold) (n : Notes) → (watched h n).faults ≡ n.faults
unfolding watched
watch_faults h n = go (nat_le (length n.thresholds) threshold_limit)
  where
    go : (b : Bool) → (if b then record { faults = n.faults; dots = n.dots; thresholds = with_threshold h n.thresholds } else n).faults ≡ n.faults
    go true = refl
    go false = refl

pub breaks_watched : (h : Threshold) (n m : Notes) → BreaksAlike n m (watched h n) (watched h m)
breaks_watched h n m = breaks_none n m (watched h n) (watched h m) (watch_faults h n) (watch_faults h m)
