-- Parts that are read without a fault.
use Rattle.std.proofs.Common.{◌≡◌, ℕ, Bool, true, false, if◌then◌else◌, List, [], ◌∷◌, ◌++◌, Option, Some, None, IfSome, refl, sym, ap, subst, ◌∙◌}
use Rattle.ams_token.specs.declared.token.Place.{Place}
use Rattle.ams_tree.specs.declared.expression.Name.{Name}
use Rattle.ams_tree.specs.declared.expression.Expr.{Expr}
use Rattle.name_scope.specs.declared.thing.Kind.{Kind}
use Rattle.name_scope.specs.declared.thing.Thing.{Thing}
use Rattle.name_scope.specs.declared.thing.Thing.TheVariants as thing
use Rattle.name_scope.specs.declared.scope.Scope.{Scope}
use Rattle.elab_meaning.specs.declared.fault.Cause.{Cause}
use Rattle.elab_meaning.specs.declared.fault.Cause.TheVariants.{Unknown, WrongType}
use Rattle.elab_meaning.specs.declared.fault.Fault.{Fault}
use Rattle.elab_meaning.specs.declared.fault.Notes.{Notes}
use Rattle.elab_meaning.specs.declared.part.Part.{Part}
use Rattle.elab_meaning.specs.declared.part.Part.TheVariants.{Kept, Wrong, Hidden}
use Rattle.elab_meaning.specs.declared.typed.Asked.{Asked}
use Rattle.elab_meaning.specs.declared.typed.Context.{Context}
use Rattle.elab_meaning.specs.declared.typed.Typed.{Typed}
use Rattle.elab_meaning.specs.Notes.{noted}
use Rattle.elab_meaning.specs.Parts.{part_of, kept, where_true, judged, both, closed, found_thing}
use Rattle.elab_meaning.specs.Expressions.{static, expression}
use Rattle.elab_meaning.specs.Subtypes.{declaring, static_part}
use Rattle.unit_meaning.specs.Settings.{sealed, finished}
use Rattle.kept_laws.specs.Kept.{BreaksAlike, IsThere, IsFaultless, NamesAreFaultless}
use Rattle.kept_laws.proofs.Alike.{both_empty}
use Rattle.kept_laws.proofs.Reading.{expression_alike, static_alike}

abbrev pub NoFaults : Notes → Type 0
NoFaults n = n.faults ≡ []

pub no_fault : {A : Type 0} (place : Place) (cause : Cause) (n : Notes) → NoFaults (noted place cause n) → A
no_fault place cause n h = absurd (not_empty n.faults h)
  where
    not_empty : (xs : List Fault) → xs ++ record { place = place; cause = cause } ∷ [] ≡ [] → ⊥
    not_empty [] e = cc
    not_empty (x ∷ xs) e = cc

pub before_noted : (place : Place) (cause : Cause) (n : Notes) → NoFaults (noted place cause n) → NoFaults n
before_noted place cause n h = no_fault place cause n h

pub before_breaks : (n m on to : Notes) (p : BreaksAlike n m on to) → NoFaults on → (NoFaults n × (p.more ≡ []))
before_breaks n m on to p h = both_empty n.faults p.more (sym p.first ∙ h)

-- ---- parts

abbrev pub NotHidden : {A : Type 0} → Part A → Type 0
NotHidden (Kept a) = Unit {0}
NotHidden Wrong = Unit {0}
NotHidden Hidden = ⊥

abbrev pub IsKept : {A : Type 0} → Part A → Type 0
IsKept (Kept a) = Unit {0}
IsKept Wrong = ⊥
IsKept Hidden = ⊥

pub kept_shown : (A : Type 0) (p : Part A) → IsKept p → NotHidden p
kept_shown A (Kept a) h = tt
kept_shown A Wrong h = tt
kept_shown A Hidden h = h

pub kept_there : (A : Type 0) (p : Part A) → IsKept p → IsThere (kept p)
kept_there A (Kept a) h = tt
kept_there A Wrong h = h
kept_there A Hidden h = h

pub part_shown : (A : Type 0) (o : Option A) → IsThere o → NotHidden (part_of o)
part_shown A (Some a) h = tt
part_shown A None h = h

pub judged_shown : (A B : Type 0) (rule : A → Part B) → ((a : A) → NotHidden (rule a)) → (p : Part A) → NotHidden p → NotHidden (judged rule p)
judged_shown A B rule h (Kept a) k = h a
judged_shown A B rule h Wrong k = tt
judged_shown A B rule h Hidden k = k

pub both_shown : (A B C : Type 0) (rule : A → B → Part C) → ((a : A) (b : B) → NotHidden (rule a b)) → (p : Part A) (q : Part B) → NotHidden p → NotHidden q → NotHidden (both rule p q)
both_shown A B C rule h (Kept a) q k l = judged_shown B C (rule a) (h a) q l
both_shown A B C rule h Wrong (Kept b) k l = tt
both_shown A B C rule h Wrong Wrong k l = tt
both_shown A B C rule h Wrong Hidden k l = l
both_shown A B C rule h Hidden q k l = k

pub where_shown : (A : Type 0) (b : Bool) (a : A) → NotHidden (where_true b a)
where_shown A true a = tt
where_shown A false a = tt

pub if_shown : (A : Type 0) (b : Bool) (p q : Part A) → NotHidden p → NotHidden q → NotHidden (if b then p else q)
if_shown A true p q h k = h
if_shown A false p q h k = k

pub closed_before : (A : Type 0) (place : Place) (p : Part A) (n : Notes) → NoFaults (closed place p n) → NoFaults n
closed_before A place (Kept a) n h = h
closed_before A place Wrong n h = before_noted place WrongType n h
closed_before A place Hidden n h = h

pub closed_kept : (A : Type 0) (place : Place) (p : Part A) (n : Notes) → NoFaults (closed place p n) → NotHidden p → IsKept p
closed_kept A place (Kept a) n h k = tt
closed_kept A place Wrong n h k = no_fault place WrongType n h
closed_kept A place Hidden n h k = k

-- ---- what is shown of a part that is read from these notes

pub record Reads (G A : Type 0) (n : Notes) (found : Notes × Part A) : Type 0 where
  pub before : NoFaults found.0 → NoFaults n
  pub shown : G → NoFaults found.0 → NotHidden found.1

pub record Keeps (G A : Type 0) (n : Notes) (found : Notes × Part A) : Type 0 where
  pub before : NoFaults found.0 → NoFaults n
  pub kept_is : G → NoFaults found.0 → IsKept found.1

pub keeps_reads : (G A : Type 0) (n : Notes) (found : Notes × Part A) → Keeps G A n found → Reads G A n found
keeps_reads G A n found h = record { before = h.before; shown = λ g f. kept_shown A found.1 (h.kept_is g f) }

sealed_kept : (A : Type 0) (p : Part A) → IsKept p → IsKept (sealed p)
sealed_kept A (Kept a) h = tt
sealed_kept A Wrong h = h
sealed_kept A Hidden h = h

pub finished_keeps : (G A : Type 0) (place : Place) (n : Notes) (found : Notes × Part A) → Reads G A n found → Keeps G A n (finished place found)
finished_keeps G A place n found h =
    record {
      before = λ f. h.before (closed_before A place found.1 found.0 f);
      kept_is = λ g f. sealed_kept A found.1 (closed_kept A place found.1 found.0 f (h.shown g (closed_before A place found.1 found.0 f)));
    }

-- ---- names and expressions

module _ (texts : List (List ℕ)) (scope : Scope) where
  pub typed_reads : (c : Context) (x : Expr) (n : Notes) → Reads (NamesAreFaultless scope) Typed n ((expression texts scope x c n).0, part_of (expression texts scope x c n).1)
  typed_reads c x n =
      let both = expression_alike texts scope x c n n in
      let found = expression texts scope x c n in
      record {
        before = λ f. (before_breaks n n found.0 found.0 both.breaks f).0;
        shown = λ g f. part_shown Typed found.1 (both.told g (before_breaks n n found.0 found.0 both.breaks f).1);
      }

  pub asked_reads : (c : Context) (x : Expr) (n : Notes) → Reads (NamesAreFaultless scope) Asked n ((static texts scope x c n).0, part_of (static texts scope x c n).1)
  asked_reads c x n =
      let both = static_alike texts scope x c n n in
      let found = static texts scope x c n in
      record {
        before = λ f. (before_breaks n n found.0 found.0 both.breaks f).0;
        shown = λ g f. part_shown Asked found.1 (both.told g (before_breaks n n found.0 found.0 both.breaks f).1);
      }

  pub static_reads : (x : Expr) (n : Notes) → Reads (NamesAreFaultless scope) Asked n (static_part texts scope x n)
  static_reads x n = asked_reads declaring x n

sound_found : (x : Name) (t : Thing) (n : Notes) → NoFaults (found_thing x (Some t) n).0 → IsFaultless t → NotHidden (found_thing x (Some t) n).1
sound_found x thing.Faulty n f h = h
sound_found x _ n f h = tt

found_before : (x : Name) (t : Thing) (n : Notes) → NoFaults (found_thing x (Some t) n).0 → NoFaults n
found_before x thing.Faulty n f = f
found_before x _ n f = f

pub thing_reads : (x : Name) (o : Option Thing) (n : Notes) → Reads (IfSome o IsFaultless) Thing n (found_thing x o n)
thing_reads x None n = record { before = λ f. before_noted x.place (Unknown x.number) n f; shown = λ g f. no_fault x.place (Unknown x.number) n f }
thing_reads x (Some t) n = record { before = λ f. found_before x t n f; shown = λ g f. sound_found x t n f g }
