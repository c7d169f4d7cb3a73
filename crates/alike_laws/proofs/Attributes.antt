-- The steps of reading attributes and operators.
use Rattle.std.proofs.Common.{◌≡◌, ℕ, Bool, true, false, if◌then◌else◌, List, length, Option, Some, None, IsSome, refl}
use Rattle.std.specs.Prelude.{nat_le}
use Rattle.ams_token.specs.declared.token.Place.{Place}
use Rattle.ams_tree.specs.declared.expression.Name.{Name}
use Rattle.ams_value.specs.declared.op.UnaryOperator.{UnaryOperator}
use Rattle.ams_value.specs.declared.op.BinaryOperator.{BinaryOperator}
use Rattle.ams_value.specs.declared.value_type.ValueType.TheVariants as kind
use Rattle.flat_expr.specs.declared.expr.FlatExpr.{FlatExpr}
use Rattle.flat_design.specs.Lists.{with_dot, with_threshold}
use Rattle.flat_design.specs.Limits.{unknown_limit, threshold_limit}
use Rattle.flat_design.specs.declared.objects.Threshold.{Threshold}
use Rattle.flat_design.specs.declared.objects.Terminal.TheVariants as terminal
use Rattle.name_scope.specs.declared.thing.Thing.{Thing}
use Rattle.name_scope.specs.declared.thing.Thing.TheVariants as thing
use Rattle.name_scope.specs.declared.thing.Kind.{Kind}
use Rattle.name_scope.specs.declared.thing.Kind.TheVariants.{Of}
use Rattle.elab_meaning.specs.declared.fault.Cause.TheVariants.{Unknown, WrongType}
use Rattle.elab_meaning.specs.declared.fault.Notes.{Notes}
use Rattle.elab_meaning.specs.declared.typed.Asked.{Asked}
use Rattle.elab_meaning.specs.declared.typed.Context.{Context}
use Rattle.elab_meaning.specs.declared.typed.StaticValue.{StaticValue}
use Rattle.elab_meaning.specs.declared.typed.StaticValue.TheVariants.{Known, Faulty, Later, Changing}
use Rattle.elab_meaning.specs.declared.typed.Surrounding.{Surrounding}
use Rattle.elab_meaning.specs.declared.typed.Surrounding.TheVariants as surrounding
use Rattle.elab_meaning.specs.declared.typed.Typed.{Typed}
use Rattle.elab_meaning.specs.Kinds.{unary_kind, binary_kind, same_kind}
use Rattle.elab_meaning.specs.Notes.{Found, noted, wrong, changing, dotted, watched}
use Rattle.elab_meaning.specs.Names.{read, event_at, no_event, event_in, dot, dot_at, reference_at, threshold, above, above_at, ramp_at}
use Rattle.elab_meaning.specs.Expressions.{above_found, prefixed, unary_at, joined, binary_at, parenthesized, asked_value, asked}
use Rattle.alike_laws.specs.Alike.{HasNoFaults, OnlyTold, AlikeFound, is_faulty}
use Rattle.alike_laws.proofs.Notes.{no_fault, told_noted, changing_still, changing_before, changing_told, reads_of, reads_never}
use Rattle.alike_laws.proofs.Steps.{Both}

-- ---- what always asks for a name that changes

-- where the check breaks no rule, the context isn't one whose value is asked
pub record Stills (k : Context) (n : Notes) (f : Found) : Type 0 where
  pub before : HasNoFaults f.0 → HasNoFaults n
  pub there : HasNoFaults f.0 → IsSome f.1
  pub still : HasNoFaults f.0 → k.is_static ≡ false

module _ (k : Context) (n : Notes) where
  read_stills : (place : Place) (s : Kind) (x : FlatExpr) → Stills k n (read k place s x n)
  read_stills place s x = record { before = λ h. changing_before k place n h; there = λ h. refl; still = λ h. changing_still k place n h }

  never_stills : (f : Found) → (HasNoFaults f.0 → ⊥) → Stills k n f
  never_stills f h = record { before = λ g. absurd (h g); there = λ g. absurd (h g); still = λ g. absurd (h g) }

  wrong_stills : (place : Place) → Stills k n (wrong place n)
  wrong_stills place = never_stills (wrong place n) (no_fault place WrongType n)

-- ---- 'event

event_stills : (k : Context) (x : Name) (t : Thing) (n : Notes) → is_faulty t ≡ false → Stills k n (event_at k x (Some t) n)
event_stills k x (thing.Signal i s a) n is = read_stills k n x.place _ _
event_stills k x thing.Domain n is = read_stills k n x.place _ _
event_stills k x thing.Faulty n is = absurd (cc)
event_stills k x _ n is = wrong_stills k n x.place

no_event_stills : (k : Context) (x : Name) (t : Thing) (n : Notes) → is_faulty t ≡ false → Stills k n (no_event x (Some t) n)
no_event_stills k x thing.Faulty n is = absurd (cc)
no_event_stills k x _ n is = wrong_stills k n x.place

event_in_stills : (k : Context) (s : Surrounding) (x : Name) (t : Thing) (n : Notes) → is_faulty t ≡ false → Stills k n (event_in k s x (Some t) n)
event_in_stills k surrounding.Condition x t n is = no_event_stills k x t n is
event_in_stills k surrounding.Declaration x t n is = event_stills k x t n is
event_in_stills k surrounding.Process x t n is = event_stills k x t n is
event_in_stills k surrounding.Equation x t n is = event_stills k x t n is

told_event : (k : Context) (x : Name) (t : Thing) (n : Notes) → k.is_static ≡ false → OnlyTold n → OnlyTold (event_at k x (Some t) n).0
told_event k x (thing.Signal i s a) n h o = changing_told k x.place n h o
told_event k x thing.Domain n h o = changing_told k x.place n h o
told_event k x thing.Faulty n h o = o
told_event k x _ n h o = told_noted x.place n o

told_no_event : (x : Name) (t : Thing) (n : Notes) → OnlyTold n → OnlyTold (no_event x (Some t) n).0
told_no_event x thing.Faulty n o = o
told_no_event x _ n o = told_noted x.place n o

told_event_in : (k : Context) (s : Surrounding) (x : Name) (t : Thing) (n : Notes) → k.is_static ≡ false → OnlyTold n → OnlyTold (event_in k s x (Some t) n).0
told_event_in k surrounding.Condition x t n h o = told_no_event x t n o
told_event_in k surrounding.Declaration x t n h o = told_event k x t n h o
told_event_in k surrounding.Process x t n h o = told_event k x t n h o
told_event_in k surrounding.Equation x t n h o = told_event k x t n h o

never_event : (k : Context) (s : Surrounding) (x : Name) (n : Notes) → HasNoFaults (event_in k s x None n).0 → ⊥
never_event k surrounding.Condition x n h = no_fault x.place (Unknown x.number) n h
never_event k surrounding.Declaration x n h = no_fault x.place (Unknown x.number) n h
never_event k surrounding.Process x n h = no_fault x.place (Unknown x.number) n h
never_event k surrounding.Equation x n h = no_fault x.place (Unknown x.number) n h

both_stills : (k : Context) (c : Notes) (d : Found) (i : Notes) (j : Found) → Stills k c d → (k.is_static ≡ false → OnlyTold i → OnlyTold j.0) → Both c d i j
both_stills k c d i j s t = record { notes = record { before = s.before; told = λ h o. t (s.still h) o }; right = s.there }

both_never : (c : Notes) (d : Found) (i : Notes) (j : Found) → (HasNoFaults d.0 → ⊥) → Both c d i j
both_never c d i j h = reads_never (Option Typed) (Option Typed) IsSome c d i j h

pub event_reads : (natures : List ℕ) (k : Context) (s : Surrounding) (x : Name) (o p : Option Thing) (c i : Notes) → AlikeFound natures o p → Both c (event_in k s x o c) i (event_in k s x p i)
event_reads natures k s x None None c i h = both_never c (event_in k s x None c) i (event_in k s x None i) (never_event k s x c)
event_reads natures k s x (Some t) (Some u) c i h =
    both_stills k c (event_in k s x (Some t) c) i (event_in k s x (Some u) i) (event_in_stills k s x t c h.whole) (told_event_in k s x u i)
event_reads natures k s x (Some t) None c i h = absurd h
event_reads natures k s x None (Some u) c i h = absurd h

-- ---- 'dot

dotted_before : (q : ℕ) (n : Notes) → HasNoFaults (dotted q n) → HasNoFaults n
unfolding dotted
dotted_before q n h = go (nat_le (length n.dots) unknown_limit) h
  where
    go : (b : Bool) → HasNoFaults (if b then record { faults = n.faults; dots = with_dot q n.dots; thresholds = n.thresholds } else n) → HasNoFaults n
    go true h = h
    go false h = h

told_dotted : (q : ℕ) (n : Notes) → OnlyTold n → OnlyTold (dotted q n)
unfolding dotted
told_dotted q n h = go (nat_le (length n.dots) unknown_limit)
  where
    go : (b : Bool) → OnlyTold (if b then record { faults = n.faults; dots = with_dot q n.dots; thresholds = n.thresholds } else n)
    go true = h
    go false = h

dot_stills : (k : Context) (x : Name) (q : ℕ) (n : Notes) → Stills k n (dot k x q n)
unfolding dot
dot_stills k x q n =
    record {
      before = λ h. changing_before k x.place n (dotted_before q (changing k x.place n) h);
      there = λ h. refl;
      still = λ h. changing_still k x.place n (dotted_before q (changing k x.place n) h);
    }

told_dot : (k : Context) (x : Name) (q : ℕ) (n : Notes) → k.is_static ≡ false → OnlyTold n → OnlyTold (dot k x q n).0
unfolding dot
told_dot k x q n h o = told_dotted q (changing k x.place n) (changing_told k x.place n h o)

dot_at_stills : (k : Context) (x : Name) (t : Thing) (n : Notes) → is_faulty t ≡ false → Stills k n (dot_at k x (Some t) n)
dot_at_stills k x (thing.Quantity q c) n is = dot_stills k x q n
dot_at_stills k x thing.Faulty n is = absurd (cc)
dot_at_stills k x _ n is = wrong_stills k n x.place

told_dot_at : (k : Context) (x : Name) (t : Thing) (n : Notes) → k.is_static ≡ false → OnlyTold n → OnlyTold (dot_at k x (Some t) n).0
told_dot_at k x (thing.Quantity q c) n h o = told_dot k x q n h o
told_dot_at k x thing.Faulty n h o = o
told_dot_at k x _ n h o = told_noted x.place n o

pub dot_reads : (natures : List ℕ) (k : Context) (x : Name) (o p : Option Thing) (c i : Notes) → AlikeFound natures o p → Both c (dot_at k x o c) i (dot_at k x p i)
dot_reads natures k x None None c i h = both_never c (dot_at k x None c) i (dot_at k x None i) (no_fault x.place (Unknown x.number) c)
dot_reads natures k x (Some t) (Some u) c i h = both_stills k c (dot_at k x (Some t) c) i (dot_at k x (Some u) i) (dot_at_stills k x t c h.whole) (told_dot_at k x u i)
dot_reads natures k x (Some t) None c i h = absurd h
dot_reads natures k x None (Some u) c i h = absurd h

-- ---- 'reference

reference_stills : (k : Context) (x : Name) (t : Thing) (n : Notes) → is_faulty t ≡ false → Stills k n (reference_at k x (Some t) n)
reference_stills k x (thing.Terminal (terminal.Node i) m) n is = read_stills k n x.place _ _
reference_stills k x (thing.Terminal terminal.Reference m) n is = read_stills k n x.place _ _
reference_stills k x thing.Faulty n is = absurd (cc)
reference_stills k x _ n is = wrong_stills k n x.place

told_reference : (k : Context) (x : Name) (t : Thing) (n : Notes) → k.is_static ≡ false → OnlyTold n → OnlyTold (reference_at k x (Some t) n).0
told_reference k x (thing.Terminal (terminal.Node i) m) n h o = changing_told k x.place n h o
told_reference k x (thing.Terminal terminal.Reference m) n h o = changing_told k x.place n h o
told_reference k x thing.Faulty n h o = o
told_reference k x _ n h o = told_noted x.place n o

pub reference_reads : (natures : List ℕ) (k : Context) (x : Name) (o p : Option Thing) (c i : Notes) → AlikeFound natures o p → Both c (reference_at k x o c) i (reference_at k x p i)
reference_reads natures k x None None c i h = both_never c (reference_at k x None c) i (reference_at k x None i) (no_fault x.place (Unknown x.number) c)
reference_reads natures k x (Some t) (Some u) c i h =
    both_stills k c (reference_at k x (Some t) c) i (reference_at k x (Some u) i) (reference_stills k x t c h.whole) (told_reference k x u i)
reference_reads natures k x (Some t) None c i h = absurd h
reference_reads natures k x None (Some u) c i h = absurd h

-- ---- 'above

watched_before : (h : Threshold) (n : Notes) → HasNoFaults (watched h n) → HasNoFaults n
unfolding watched
watched_before t n h = go (nat_le (length n.thresholds) threshold_limit) h
  where
    go : (b : Bool) → HasNoFaults (if b then record { faults = n.faults; dots = n.dots; thresholds = with_threshold t n.thresholds } else n) → HasNoFaults n
    go true h = h
    go false h = h

pub told_watched : (h : Threshold) (n : Notes) → OnlyTold n → OnlyTold (watched h n)
unfolding watched
told_watched t n h = go (nat_le (length n.thresholds) threshold_limit)
  where
    go : (b : Bool) → OnlyTold (if b then record { faults = n.faults; dots = n.dots; thresholds = with_threshold t n.thresholds } else n)
    go true = h
    go false = h

-- of a step behind an operand: it breaks no rule only where none was broken before, and keeps what it makes of a kept operand
abbrev pub Passes : (A B : Type 0) → Option A → Notes → Notes × Option B → Type 0
Passes A B a n f = HasNoFaults f.0 → HasNoFaults n × (IsSome a → IsSome f.1)

no_passing : (A B : Type 0) (a : Option A) (place : Place) (n : Notes) → Passes A B a n (noted place WrongType n, None)
no_passing A B a place n h = absurd (no_fault place WrongType n h)

above_of_passes : (place : Place) (t : Threshold) (level : Asked) (n : Notes) → Passes Asked Typed (Some level) n (above place t n)
unfolding above
above_of_passes place t level n h = (watched_before t n h, λ is. refl)

above_passes : (x : Name) (t : Thing) (level : Option Asked) (n : Notes) → is_faulty t ≡ false → Passes Asked Typed level n (above_at x (Some t) level n)
above_passes x (thing.Quantity q c) (Some level) n is = go (same_kind level.kind (Of kind.Real))
  where
    go : (b : Bool) → Passes Asked Typed (Some level) n (if b then above x.place (threshold q level) n else wrong x.place n)
    go true = above_of_passes x.place (threshold q level) level n
    go false = no_passing Asked Typed (Some level) x.place n
above_passes x thing.Faulty level n is = absurd (cc)
above_passes x t None n is = λ h. (h, λ is. absurd (cc))
above_passes x t (Some level) n is = no_passing Asked Typed (Some level) x.place n

told_above_of : (place : Place) (t : Threshold) (n : Notes) → OnlyTold n → OnlyTold (above place t n).0
unfolding above
told_above_of place t n o = told_watched t n o

told_above : (x : Name) (t : Thing) (level : Option Asked) (n : Notes) → OnlyTold n → OnlyTold (above_at x (Some t) level n).0
told_above x (thing.Quantity q c) (Some level) n o = go (same_kind level.kind (Of kind.Real))
  where
    go : (b : Bool) → OnlyTold (if b then above x.place (threshold q level) n else wrong x.place n).0
    go true = told_above_of x.place (threshold q level) n o
    go false = told_noted x.place n o
told_above x thing.Faulty level n o = o
told_above x t None n o = o
told_above x t (Some level) n o = told_noted x.place n o

asked_value_passes : (t : Typed) (v : StaticValue) (n : Notes) → Passes Typed Asked (Some t) n (asked_value t.place t.kind v n)
asked_value_passes t (Known v) n h = (h, λ is. refl)
asked_value_passes t Faulty n h = absurd (no_fault t.place WrongType n h)
asked_value_passes t Later n h = (h, λ is. refl)
asked_value_passes t Changing n h = (h, λ is. refl)

pub asked_passes : (o : Option Typed) (n : Notes) → Passes Typed Asked o n (asked o n)
asked_passes (Some t) n h = asked_value_passes t t.value n h
asked_passes None n h = (h, λ is. is)

told_asked_value : (t : Typed) (v : StaticValue) (n : Notes) → OnlyTold n → OnlyTold (asked_value t.place t.kind v n).0
told_asked_value t (Known v) n o = o
told_asked_value t Faulty n o = told_noted t.place n o
told_asked_value t Later n o = o
told_asked_value t Changing n o = o

pub told_asked : (f : Option Typed) (n : Notes) → OnlyTold n → OnlyTold (asked f n).0
told_asked (Some t) n o = told_asked_value t t.value n o
told_asked None n o = o

never_above : (x : Name) (level : Option Asked) (n : Notes) → HasNoFaults (above_at x None level n).0 → ⊥
never_above x level n h = no_fault x.place (Unknown x.number) n h

-- behind the level
pub above_reads : (natures : List ℕ) (k : Context) (x : Name) (o p : Option Thing) (c : Notes) (d : Found) (i : Notes) (j : Found) → AlikeFound natures o p → Both c d i j
    → Both c (above_found k x o d.1 d.0) i (above_found k x p j.1 j.0)
above_reads natures k x None None c d i j h r =
    both_never c (above_found k x None d.1 d.0) i (above_found k x None j.1 j.0) (never_above x (asked d.1 d.0).1 (changing k x.place (asked d.1 d.0).0))
above_reads natures k x (Some t) (Some u) c d i j h r =
    let level = asked d.1 d.0 in
    let here = changing k x.place level.0 in
    let other = asked j.1 j.0 in
    reads_of (Option Typed) (Option Typed) IsSome c (above_found k x (Some t) d.1 d.0) i (above_found k x (Some u) j.1 j.0)
    (λ g.
    let a = above_passes x t level.1 here h.whole g in
    let b = asked_passes d.1 d.0 (changing_before k x.place level.0 a.0) in
    (r.notes.before b.0, a.1 (b.1 (r.right b.0))))
    (λ g o.
    let a = above_passes x t level.1 here h.whole g in
    let b = asked_passes d.1 d.0 (changing_before k x.place level.0 a.0) in
    told_above x u other.1 (changing k x.place other.0) (changing_told k x.place other.0 (changing_still k x.place level.0 a.0) (told_asked j.1 j.0 (r.notes.told b.0 o))))
above_reads natures k x (Some t) None c d i j h r = absurd h
above_reads natures k x None (Some u) c d i j h r = absurd h

-- ---- 'ramp, which the check never keeps

never_ramp_of : (x : Name) (t : Thing) (n : Notes) → is_faulty t ≡ false → HasNoFaults (ramp_at x (Some t) true n).0 → ⊥
never_ramp_of x thing.Faulty n is h = absurd (cc)
never_ramp_of x _ n is h = no_fault x.place WrongType n h

pub never_ramp : (natures : List ℕ) (x : Name) (o p : Option Thing) (fine : Bool) (n : Notes) → AlikeFound natures o p → fine ≡ true → HasNoFaults (ramp_at x o fine n).0 → ⊥
never_ramp natures x None None fine n h is g = no_fault x.place (Unknown x.number) n g
never_ramp natures x (Some t) (Some u) true n h is g = never_ramp_of x t n h.whole g
never_ramp natures x (Some t) (Some u) false n h is g = cc
never_ramp natures x (Some t) None fine n h is g = absurd h
never_ramp natures x None (Some u) fine n h is g = absurd h

ramp_before_of : (x : Name) (t : Thing) (fine : Bool) (n : Notes) → HasNoFaults (ramp_at x (Some t) fine n).0 → HasNoFaults n
ramp_before_of x thing.Faulty fine n h = h
ramp_before_of x _ true n h = absurd (no_fault x.place WrongType n h)
ramp_before_of x _ false n h = h

pub ramp_before : (x : Name) (o : Option Thing) (fine : Bool) (n : Notes) → HasNoFaults (ramp_at x o fine n).0 → HasNoFaults n
ramp_before x None fine n h = absurd (no_fault x.place (Unknown x.number) n h)
ramp_before x (Some t) fine n h = ramp_before_of x t fine n h

-- ---- operators

prefixed_passes : (op : UnaryOperator) (place : Place) (a : Typed) (k : Option Kind) (n : Notes) → Passes Typed Typed (Some a) n (prefixed op place a k n)
prefixed_passes op place a None n = no_passing Typed Typed (Some a) place n
prefixed_passes op place a (Some k) n = λ h. (h, λ is. refl)

pub unary_passes : (op : UnaryOperator) (place : Place) (a : Option Typed) (n : Notes) → Passes Typed Typed a n (unary_at op place a n)
unary_passes op place None n = λ h. (h, λ is. is)
unary_passes op place (Some a) n = prefixed_passes op place a (unary_kind op a.kind) n

told_prefixed : (op : UnaryOperator) (place : Place) (a : Typed) (k : Option Kind) (n : Notes) → OnlyTold n → OnlyTold (prefixed op place a k n).0
told_prefixed op place a None n o = told_noted place n o
told_prefixed op place a (Some k) n o = o

pub told_unary : (op : UnaryOperator) (place : Place) (a : Option Typed) (n : Notes) → OnlyTold n → OnlyTold (unary_at op place a n).0
told_unary op place None n o = o
told_unary op place (Some a) n o = told_prefixed op place a (unary_kind op a.kind) n o

pub paren_passes : (place : Place) (a : Option Typed) (n : Notes) → Passes Typed Typed a n (parenthesized place a n)
paren_passes place None n = λ h. (h, λ is. is)
paren_passes place (Some a) n = λ h. (h, λ is. refl)

pub told_paren : (place : Place) (a : Option Typed) (n : Notes) → OnlyTold n → OnlyTold (parenthesized place a n).0
told_paren place None n o = o
told_paren place (Some a) n o = o

joined_passes : (op : BinaryOperator) (a b : Typed) (k : Option Kind) (n : Notes) → HasNoFaults (joined op a b k n).0 → HasNoFaults n × IsSome (joined op a b k n).1
joined_passes op a b None n h = absurd (no_fault a.place WrongType n h)
joined_passes op a b (Some k) n h = (h, refl)

pub binary_before : (op : BinaryOperator) (a b : Option Typed) (n : Notes) → HasNoFaults (binary_at op a b n).0 → HasNoFaults n
binary_before op None b n h = h
binary_before op (Some a) None n h = h
binary_before op (Some a) (Some b) n h = (joined_passes op a b (binary_kind op a.kind b.kind) n h).0

pub binary_there : (op : BinaryOperator) (a b : Option Typed) (n : Notes) → HasNoFaults (binary_at op a b n).0 → IsSome a → IsSome b → IsSome (binary_at op a b n).1
binary_there op None b n h f g = f
binary_there op (Some a) None n h f g = g
binary_there op (Some a) (Some b) n h f g = (joined_passes op a b (binary_kind op a.kind b.kind) n h).1

told_joined : (op : BinaryOperator) (a b : Typed) (k : Option Kind) (n : Notes) → OnlyTold n → OnlyTold (joined op a b k n).0
told_joined op a b None n o = told_noted a.place n o
told_joined op a b (Some k) n o = o

pub told_binary : (op : BinaryOperator) (a b : Option Typed) (n : Notes) → OnlyTold n → OnlyTold (binary_at op a b n).0
told_binary op None b n o = o
told_binary op (Some a) None n o = o
told_binary op (Some a) (Some b) n o = told_joined op a b (binary_kind op a.kind b.kind) n o
