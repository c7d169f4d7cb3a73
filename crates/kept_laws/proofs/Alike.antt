-- Two readings that add the same faults.
use Rattle.std.proofs.Common.{◌≡◌, ℕ, Bool, true, false, if◌then◌else◌, List, [], ◌∷◌, ◌++◌, Option, Some, None, IfSome, refl, sym, ap, ◌∙◌, subst, append_assoc, append-nil}
use Rattle.ams_token.specs.declared.token.Place.{Place}
use Rattle.flat_expr.specs.declared.expr.FlatExpr.{FlatExpr}
use Rattle.elab_meaning.specs.declared.fault.Cause.{Cause}
use Rattle.elab_meaning.specs.declared.fault.Cause.TheVariants.{NotStatic}
use Rattle.elab_meaning.specs.declared.fault.Fault.{Fault}
use Rattle.elab_meaning.specs.declared.fault.Notes.{Notes}
use Rattle.elab_meaning.specs.declared.typed.Context.{Context}
use Rattle.elab_meaning.specs.declared.typed.Typed.{Typed}
use Rattle.elab_meaning.specs.Notes.{Found, noted, changing}
use Rattle.kept_laws.specs.Kept.{BreaksAlike, IsThere}

-- ---- lists

pub both_empty : (xs ys : List Fault) → xs ++ ys ≡ [] → (xs ≡ []) × (ys ≡ [])
both_empty [] ys h = (refl, h)
both_empty (x ∷ xs) ys h = absurd (cc)

pub none_more : (xs ys zs : List Fault) → zs ≡ xs ++ ys → zs ≡ xs → ys ≡ []
none_more [] ys zs h k = sym h ∙ k
none_more (x ∷ xs) ys [] h k = absurd (cc)
none_more (x ∷ xs) ys (z ∷ zs) h k = none_more xs ys zs (tail_is z x zs (xs ++ ys) h) (tail_is z x zs xs k)
  where
    rest : List Fault → List Fault
    rest [] = []
    rest (y ∷ more) = more

    tail_is : (a b : Fault) (us vs : List Fault) → a ∷ us ≡ b ∷ vs → us ≡ vs
    tail_is a b us vs e = ap rest e

-- ---- notes

abbrev pub alike_none : (n m : Notes) → BreaksAlike n m n m
alike_none n m = record { more = []; first = sym (append-nil n.faults); second = sym (append-nil m.faults) }

abbrev pub alike_noted : (place : Place) (cause : Cause) (n m : Notes) → BreaksAlike n m (noted place cause n) (noted place cause m)
alike_noted place cause n m = record { more = record { place = place; cause = cause } ∷ []; first = refl; second = refl }

abbrev pub alike_on : (n m a b on to : Notes) → BreaksAlike n m a b → BreaksAlike a b on to → BreaksAlike n m on to
alike_on n m a b on to p q =
    record {
      more = p.more ++ q.more;
      first = q.first ∙ (ap (λ (l : List Fault). l ++ q.more) p.first ∙ append_assoc n.faults p.more q.more);
      second = q.second ∙ (ap (λ (l : List Fault). l ++ q.more) p.second ∙ append_assoc m.faults p.more q.more);
    }

pub alike_changing : (c : Context) (place : Place) (n m : Notes) → BreaksAlike n m (changing c place n) (changing c place m)
alike_changing c place n m = go c.is_static
  where
    go : (b : Bool) → BreaksAlike n m (if b then noted place NotStatic n else n) (if b then noted place NotStatic m else m)
    go true = alike_noted place NotStatic n m
    go false = alike_none n m

-- ---- the same but for the numbers of dots and thresholds

abbrev pub as_read : FlatExpr → Typed → Typed
as_read e a = record { place = a.place; kind = a.kind; expr = e; value = a.value }

abbrev pub LikeTyped : Typed → Typed → Type 0
LikeTyped a b = (e : FlatExpr) × (b ≡ as_read e a)

abbrev pub Like : Option Typed → Option Typed → Type 0
Like (Some a) (Some b) = LikeTyped a b
Like None None = Unit {0}
Like _ _ = ⊥

pub along : (P : Typed → Type 0) (a b : Typed) → LikeTyped a b → ((e : FlatExpr) → P (as_read e a)) → P b
along P a b h g = subst P (sym h.1) (g h.0)

-- two readings of one expression; where G, one that breaks no rule is found
pub record Alike (G : Type 0) (n m : Notes) (f g : Found) : Type 0 where
  pub breaks : BreaksAlike n m f.0 g.0
  pub like : Like f.1 g.1
  pub told : G → breaks.more ≡ [] → IsThere f.1

-- behind other notes
pub behind : (G H : Type 0) (n m a b : Notes) (f g : Found) → (p : BreaksAlike n m a b) → (G → p.more ≡ [] → H) → Alike H a b f g → Alike G n m f g
behind G H n m a b f g p h q =
    record {
      breaks = alike_on n m a b f.0 g.0 p q.breaks;
      like = q.like;
      told = λ k none. let parts = both_empty p.more q.breaks.more none in q.told (h k parts.0) parts.1;
    }

pub weaker : (G H : Type 0) (n m : Notes) (f g : Found) → (G → H) → Alike H n m f g → Alike G n m f g
weaker G H n m f g h q = record { breaks = q.breaks; like = q.like; told = λ k. q.told (h k) }

-- ---- ends of a reading

module _ (G : Type 0) (n m : Notes) where
  pub still : (a : Typed) (e : FlatExpr) → Alike G n m (n, Some a) (m, Some (as_read e a))
  still a e = record { breaks = alike_none n m; like = (e, refl); told = λ g none. tt }

  pub nothing : (G → ⊥) → Alike G n m (n, None) (m, None)
  nothing never = record { breaks = alike_none n m; like = tt; told = λ g none. absurd (never g) }

  pub broken : (place : Place) (cause : Cause) → Alike G n m (noted place cause n, None) (noted place cause m, None)
  broken place cause = record { breaks = alike_noted place cause n m; like = tt; told = λ g none. absurd (cc) }

  pub changed : (c : Context) (place : Place) (a : Typed) (e : FlatExpr) → Alike G n m (changing c place n, Some a) (changing c place m, Some (as_read e a))
  changed c place a e = record { breaks = alike_changing c place n m; like = (e, refl); told = λ g none. tt }
