-- The steps of reading an expression: what the check breaks, and what an instance may.
use Rattle.std.proofs.Common.{◌≡◌, ℕ, Bool, true, false, if◌then◌else◌, List, [], ◌∷◌, Option, Some, None, IsSome, refl}
use Rattle.std.specs.Prelude.{◌&&◌}
use Rattle.ams_token.specs.declared.token.Place.{Place}
use Rattle.ams_tree.specs.declared.expression.Name.{Name}
use Rattle.ams_tree.specs.declared.expression.NumberValue.{NumberValue}
use Rattle.ams_tree.specs.declared.expression.LiteralValue.{LiteralValue}
use Rattle.ams_value.specs.declared.val.Val.{Val}
use Rattle.ams_value.specs.declared.value_type.ValueType.TheVariants as kind
use Rattle.flat_expr.specs.declared.expr.FlatExpr.{FlatExpr}
use Rattle.flat_expr.specs.declared.expr.Function.{Function}
use Rattle.name_scope.specs.declared.thing.Thing.{Thing}
use Rattle.name_scope.specs.declared.thing.Thing.TheVariants as thing
use Rattle.name_scope.specs.declared.thing.Kind.{Kind}
use Rattle.name_scope.specs.declared.thing.Kind.TheVariants.{Of}
use Rattle.name_scope.specs.declared.thing.Subtype.{Subtype}
use Rattle.elab_meaning.specs.declared.fault.Cause.TheVariants.{Unknown, WrongType}
use Rattle.elab_meaning.specs.declared.fault.Notes.{Notes}
use Rattle.elab_meaning.specs.declared.typed.Context.{Context}
use Rattle.elab_meaning.specs.declared.typed.Scale.{Scale}
use Rattle.elab_meaning.specs.declared.typed.Surrounding.{Surrounding}
use Rattle.elab_meaning.specs.declared.typed.Surrounding.TheVariants as surrounding
use Rattle.elab_meaning.specs.declared.typed.Typed.{Typed}
use Rattle.elab_meaning.specs.Kinds.{same_kind, is_vector}
use Rattle.elab_meaning.specs.Notes.{Found, wrong}
use Rattle.elab_meaning.specs.Literals.{in_range, number_literal, content_literal, scaled_at, time_at, time_literal, number_at, literal_at}
use Rattle.elab_meaning.specs.Names.{read, named, now_at, function_at, vector_at, indexed, applied, call_with, call_at, element_at, element_of_name}
use Rattle.alike_laws.specs.Alike.{HasNoFaults, OnlyTold, Reads, AlikeFound, changes, is_faulty}
use Rattle.alike_laws.proofs.Notes.{no_fault, told_noted, changing_still, changing_before, changing_told, reads_of, reads_never}

-- a reading of the check that breaks no rule broke none before, and kept the expression
abbrev pub Clean : (A : Type 0) → Notes → Notes × Option A → Type 0
Clean A n f = HasNoFaults f.0 → HasNoFaults n × IsSome f.1

-- ---- literals

clean_in_range : (place : Place) (v : Option Val) (n : Notes) → Clean Typed n (in_range place v n)
clean_in_range place (Some v) n h = (h, refl)
clean_in_range place None n h = absurd (no_fault place WrongType n h)

told_in_range : (place : Place) (v : Option Val) (n : Notes) → OnlyTold n → OnlyTold (in_range place v n).0
told_in_range place (Some v) n h = h
told_in_range place None n h = told_noted place n h

abbrev pub Both : Notes → Found → Notes → Found → Type 0
Both c d i j = Reads (Option Typed) (Option Typed) IsSome c d i j

range_reads : (place : Place) (v : Option Val) (c i : Notes) → Both c (in_range place v c) i (in_range place v i)
range_reads place v c i =
    reads_of (Option Typed) (Option Typed) IsSome c (in_range place v c) i (in_range place v i) (clean_in_range place v c) (λ h. told_in_range place v i)

pub literal_reads : (texts : List (List ℕ)) (place : Place) (x : LiteralValue) (c i : Notes) → Both c (literal_at texts place x c) i (literal_at texts place x i)
literal_reads texts place x c i = range_reads place (content_literal texts x) c i

never_unit : (place : Place) (x : NumberValue) (unit : Name) (found : Option Thing) (n : Notes) → HasNoFaults (scaled_at place x unit found None n).0 → ⊥
never_unit place x unit None n h = no_fault unit.place (Unknown unit.number) n h
never_unit place x unit (Some t) n h = no_fault place WrongType n h

scaled_reads : (place : Place) (x : NumberValue) (unit : Name) (o p : Option Thing) (s : Option Scale) (c i : Notes) → Both c (scaled_at place x unit o s c) i (scaled_at place x unit p s i)
scaled_reads place x unit o p (Some s) c i = range_reads place (time_literal x s) c i
scaled_reads place x unit o p None c i =
    reads_never (Option Typed) (Option Typed) IsSome c (scaled_at place x unit o None c) i (scaled_at place x unit p None i) (never_unit place x unit o c)

time_reads : (place : Place) (x : NumberValue) (v : Option Val) (unit : Name) (o p : Option Thing) (s : Option Scale) (c i : Notes) → Both c (time_at place x v unit o s c) i (time_at place x v unit p s i)
time_reads place x None unit o p s c i =
    reads_never (Option Typed) (Option Typed) IsSome c (wrong place c) i (wrong place i) (no_fault place WrongType c)
time_reads place x (Some v) unit o p s c i = scaled_reads place x unit o p s c i

pub number_reads : (texts : List (List ℕ)) (f g : ℕ → Option Thing) (place : Place) (x : NumberValue) (unit : Option Name) (c i : Notes)
    → Both c (number_at texts f place x unit c) i (number_at texts g place x unit i)
number_reads texts f g place x None c i = range_reads place (number_literal x) c i
number_reads texts f g place x (Some unit) c i = time_reads place x (number_literal x) unit (f unit.number) (g unit.number) _ c i

-- ---- names

-- where the check breaks no rule, a context whose value is asked names nothing that changes
pub record Named (k : Context) (t : Thing) (n : Notes) (f : Found) : Type 0 where
  pub before : HasNoFaults f.0 → HasNoFaults n
  pub there : HasNoFaults f.0 → IsSome f.1
  pub still : HasNoFaults f.0 → changes t ≡ true → k.is_static ≡ false

abbrev Still : Context → Thing → Type 0
Still k t = changes t ≡ true → k.is_static ≡ false

module _ (k : Context) (t : Thing) (n : Notes) where
  read_named : (place : Place) (s : Kind) (x : FlatExpr) → Named k t n (read k place s x n)
  read_named place s x = record { before = λ h. changing_before k place n h; there = λ h. refl; still = λ h c. changing_still k place n h }

  never_named : (f : Found) → (HasNoFaults f.0 → ⊥) → Named k t n f
  never_named f h = record { before = λ g. absurd (h g); there = λ g. absurd (h g); still = λ g. absurd (h g) }

  quiet_named : (x : Typed) → changes t ≡ false → Named k t n (n, Some x)
  quiet_named x is = record { before = λ h. h; there = λ h. refl; still = λ h c. absurd (cc) }

  now_named : (s : Surrounding) (place : Place) → Named k t n (now_at k s place n)
  now_named surrounding.Declaration place = read_named place _ _
  now_named surrounding.Process place = read_named place _ _
  now_named surrounding.Equation place = read_named place _ _
  now_named surrounding.Condition place = read_named place _ _

name_named : (k : Context) (x : Name) (t : Thing) (n : Notes) → is_faulty t ≡ false → Named k t n (named k x (Some t) n)
name_named k x (thing.Constant s (Some v)) n is = quiet_named k (thing.Constant s (Some v)) n _ refl
name_named k x (thing.Constant s None) n is = quiet_named k (thing.Constant s None) n _ refl
name_named k x (thing.Literal v) n is = quiet_named k (thing.Literal v) n _ refl
name_named k x (thing.Signal i s a) n is = read_named k (thing.Signal i s a) n x.place _ _
name_named k x thing.Domain n is = read_named k thing.Domain n x.place _ _
name_named k x (thing.Quantity i q) n is = read_named k (thing.Quantity i q) n x.place _ _
name_named k x (thing.Variable i s) n is = read_named k (thing.Variable i s) n x.place _ _
name_named k x (thing.Parameter i) n is = read_named k (thing.Parameter i) n x.place _ _
name_named k x thing.Now n is = now_named k thing.Now n k.surrounding x.place
name_named k x thing.Faulty n is = absurd (cc)
name_named k x t n is = never_named k t n (wrong x.place n) (no_fault x.place WrongType n)

told_now : (k : Context) (s : Surrounding) (place : Place) (n : Notes) → k.is_static ≡ false → OnlyTold n → OnlyTold (now_at k s place n).0
told_now k surrounding.Declaration place n h o = changing_told k place n h o
told_now k surrounding.Process place n h o = changing_told k place n h o
told_now k surrounding.Equation place n h o = changing_told k place n h o
told_now k surrounding.Condition place n h o = changing_told k place n h o

told_named : (k : Context) (x : Name) (t : Thing) (n : Notes) → Still k t → OnlyTold n → OnlyTold (named k x (Some t) n).0
told_named k x (thing.Constant s (Some v)) n h o = o
told_named k x (thing.Constant s None) n h o = o
told_named k x (thing.Literal v) n h o = o
told_named k x (thing.Signal i s a) n h o = changing_told k x.place n (h refl) o
told_named k x thing.Domain n h o = changing_told k x.place n (h refl) o
told_named k x (thing.Quantity i q) n h o = changing_told k x.place n (h refl) o
told_named k x (thing.Variable i s) n h o = changing_told k x.place n (h refl) o
told_named k x (thing.Parameter i) n h o = changing_told k x.place n (h refl) o
told_named k x thing.Now n h o = told_now k k.surrounding x.place n (h refl) o
told_named k x thing.Faulty n h o = o
told_named k x _ n h o = told_noted x.place n o

-- ---- calls and elements

module _ (k : Context) (x : Name) (t : Thing) (n : Notes) where
  element_named : (s : Subtype) (i : Typed) (f : Found) → Named k t n f → Named k t n (element_at x.place s i f.1 f.0)
  element_named s i f h = go f.1 h.there
    where
      go : (o : Option Typed) → (HasNoFaults f.0 → IsSome o) → Named k t n (element_at x.place s i o f.0)
      go (Some v) g = record { before = h.before; there = λ d. refl; still = h.still }
      go None g = record { before = h.before; there = g; still = h.still }

  indexed_named : (s : Option Subtype) (i : Typed) → is_faulty t ≡ false → Named k t n (indexed k x t s i n)
  indexed_named None i is = never_named k t n (wrong x.place n) (no_fault x.place WrongType n)
  indexed_named (Some s) i is = go (is_vector s.kind && same_kind i.kind (Of kind.Integer))
    where
      go : (b : Bool) → Named k t n (if b then element_of_name k x s i t n else wrong x.place n)
      go true = element_named s i (named k x (Some t) n) (name_named k x t n is)
      go false = never_named k t n (wrong x.place n) (no_fault x.place WrongType n)

-- what stands as a function doesn't change
function_still : (t : Thing) (k : Kind) (f : Function) → function_at t k ≡ Some f → changes t ≡ false
function_still (thing.Function g) k f h = refl
function_still (thing.Type s g) k f h = refl
function_still (thing.Signal i s a) k f h = absurd (cc)
function_still thing.Domain k f h = absurd (cc)
function_still (thing.Quantity i q) k f h = absurd (cc)
function_still (thing.Variable i s) k f h = absurd (cc)
function_still (thing.Parameter i) k f h = absurd (cc)
function_still thing.Now k f h = absurd (cc)
function_still _ k f h = refl

module _ (k : Context) (x : Name) (t : Thing) (n : Notes) (is : is_faulty t ≡ false) where
  applied_named : (f : Option Function) (a : Typed) → function_at t a.kind ≡ f → Named k t n (applied k x t f a n)
  applied_named (Some f) a h = quiet_named k t n _ (function_still t a.kind f h)
  applied_named None a h = indexed_named k x t n (vector_at t) a is

  call_named : (all : List Typed) → Named k t n (call_with k x t all n)
  call_named [] = never_named k t n (wrong x.place n) (no_fault x.place WrongType n)
  call_named (a ∷ []) = applied_named (function_at t a.kind) a refl
  call_named (a ∷ b ∷ more) = never_named k t n (wrong x.place n) (no_fault x.place WrongType n)

module _ (k : Context) (x : Name) (t : Thing) (n : Notes) (still : Still k t) (o : OnlyTold n) where
  told_element : (s : Subtype) (i : Typed) (v : Option Typed) (m : Notes) → OnlyTold m → OnlyTold (element_at x.place s i v m).0
  told_element s i (Some v) m h = h
  told_element s i None m h = h

  told_indexed : (s : Option Subtype) (i : Typed) → OnlyTold (indexed k x t s i n).0
  told_indexed None i = told_noted x.place n o
  told_indexed (Some s) i = go (is_vector s.kind && same_kind i.kind (Of kind.Integer))
    where
      go : (b : Bool) → OnlyTold (if b then element_of_name k x s i t n else wrong x.place n).0
      go true = told_element s i (named k x (Some t) n).1 (named k x (Some t) n).0 (told_named k x t n still o)
      go false = told_noted x.place n o

  told_applied : (f : Option Function) (a : Typed) → OnlyTold (applied k x t f a n).0
  told_applied (Some f) a = o
  told_applied None a = told_indexed (vector_at t) a

  told_call_with : (all : List Typed) → OnlyTold (call_with k x t all n).0
  told_call_with [] = told_noted x.place n o
  told_call_with (a ∷ []) = told_applied (function_at t a.kind) a
  told_call_with (a ∷ b ∷ more) = told_noted x.place n o

-- a call that the check keeps: its name is there, and its arguments are kept
pub call_clean : (k : Context) (x : Name) (t : Thing) (all : Option (List Typed)) (n : Notes) → is_faulty t ≡ false → IsSome all → Named k t n (call_at k x (Some t) all n)
call_clean k x thing.Faulty all n is there = absurd (cc)
call_clean k x t None n is there = absurd (cc)
call_clean k x t (Some all) n is there = call_named k x t n is all

pub call_before : (k : Context) (x : Name) (t : Thing) (all : Option (List Typed)) (n : Notes) → is_faulty t ≡ false → HasNoFaults (call_at k x (Some t) all n).0 → HasNoFaults n
call_before k x thing.Faulty all n is h = absurd (cc)
call_before k x t None n is h = h
call_before k x t (Some all) n is h = (call_named k x t n is all).before h

pub told_call : (k : Context) (x : Name) (t : Thing) (all : Option (List Typed)) (n : Notes) → Still k t → OnlyTold n → OnlyTold (call_at k x (Some t) all n).0
told_call k x thing.Faulty all n h o = o
told_call k x t None n h o = o
told_call k x t (Some all) n h o = told_call_with k x t n h o all

-- ---- a name alone

pub name_reads : (natures : List ℕ) (k : Context) (x : Name) (o p : Option Thing) (c i : Notes) → AlikeFound natures o p → Both c (named k x o c) i (named k x p i)
name_reads natures k x None None c i h =
    reads_never (Option Typed) (Option Typed) IsSome c (named k x None c) i (named k x None i) (no_fault x.place (Unknown x.number) c)
name_reads natures k x (Some t) (Some u) c i h =
    let n = name_named k x t c h.whole in
    record { notes = record { before = n.before; told = λ g o. told_named k x u i (λ is. n.still g (h.changing is)) o }; right = n.there }
name_reads natures k x (Some t) None c i h = absurd h
name_reads natures k x None (Some u) c i h = absurd h
