-- What declarations declare: signals, constants, terminals, natures, quantities and types.
use Rattle.std.proofs.Common.{◌≡◌, ◌<◌, ℕ, ℤ, pos, false, List, [], ◌∷◌, ◌++◌, length, Option, Some, None, refl, sym, subst, ap, ◌∙◌}
use Rattle.ams_tree.specs.declared.expression.Name.{Name}
use Rattle.ams_tree.specs.declared.expression.Expr.{Expr}
use Rattle.ams_tree.specs.declared.declaration.SubtypeIndication.{SubtypeIndication}
use Rattle.ams_value.specs.declared.val.Val.TheVariants as val
use Rattle.flat_design.specs.declared.objects.Terminal.{Terminal}
use Rattle.flat_design.specs.declared.objects.Terminal.TheVariants as terminal
use Rattle.flat_design.specs.declared.objects.QuantityKind.{QuantityKind}
use Rattle.name_scope.specs.declared.scope.Scope.{Scope}
use Rattle.name_scope.specs.declared.thing.Access.{Access}
use Rattle.name_scope.specs.declared.thing.QuantityClass.{QuantityClass}
use Rattle.name_scope.specs.declared.thing.Subtype.{Subtype}
use Rattle.name_scope.specs.declared.thing.Thing.{Thing}
use Rattle.name_scope.specs.declared.thing.Thing.TheVariants as thing
use Rattle.name_scope.specs.Scopes.{lookup}
use Rattle.elab_meaning.specs.declared.book.Book.{Book}
use Rattle.elab_meaning.specs.declared.fault.Notes.{Notes}
use Rattle.elab_meaning.specs.declared.part.Part.{Part}
use Rattle.elab_meaning.specs.declared.part.Part.TheVariants.{Kept}
use Rattle.elab_meaning.specs.declared.typed.Valued.{Valued}
use Rattle.elab_meaning.specs.Parts.{kept, judged, found_thing}
use Rattle.elab_meaning.specs.Subtypes.{subtype, initial}
use Rattle.elab_meaning.specs.Declarations.{with_objects, path_of, faulty, with_signal, signal_of, constant_of, constant, nature_of, nature_named, node, with_quantity, quantity_of, initial_real, free_of, free_value, free_quantity, type_of_subtype}
use Rattle.alike_laws.specs.Alike.{HasNoFaults, Reads, IsShown, is_faulty, is_label, own_nature, terminal_nature, at_instance, IsNumbered, SameNature, AlikeThing, AlikeFound, AlikeScopes}
use Rattle.alike_laws.proofs.Notes.{follows_same, follows_on}
use Rattle.alike_books.proofs.Before.{RuleBefore, declared_before}
use Rattle.alike_books.proofs.Parts.{shown_where, shown_judged, found_reads, subtype_reads, initial_reads}
use Rattle.alike_books.proofs.Names.{with_books, declared_alike, RulesAlike}

-- ---- rules of names break no rule before

pub signal_before : (texts : List (List ℕ)) (a : Access) (v : Valued) → RuleBefore (signal_of texts a v)
signal_before texts a v x b h = declared_before (thing.Signal (length b.objects.signals) v.subtype a) x (with_signal texts v x b) h

pub constant_before : (v : Valued) → RuleBefore (constant v)
constant_before v x b h = declared_before (constant_of v) x b h

abbrev pub with_node : List (List ℕ) → Name → Book → Book
with_node texts x b = with_objects (record b.objects { nodes = b.objects.nodes ++ record { path = path_of texts x b } ∷ [] }) b

pub node_before : (texts : List (List ℕ)) (m : ℕ) → RuleBefore (node texts m)
node_before texts m x b h = declared_before (thing.Terminal (terminal.Node (length b.objects.nodes)) m) x (with_node texts x b) h

pub quantity_of_before : (texts : List (List ℕ)) (k : QuantityKind) (q : QuantityClass) (v : ℤ) → RuleBefore (quantity_of texts k q v)
quantity_of_before texts k q v x b h = declared_before (thing.Quantity (length b.objects.quantities) q) x (with_quantity texts k v x b) h

pub type_before : (s : Subtype) → RuleBefore (type_of_subtype s)
type_before s x b h = declared_before (thing.Type s None) x b h

module _ (natures : List ℕ) where
  -- ---- things

  same_none : (o : Option ℕ) → SameNature natures o None
  same_none (Some m) = tt
  same_none None = tt

  -- beside a broken one
  pub broken_alike : (t : Thing) → is_faulty t ≡ false → is_label t ≡ false → IsNumbered natures (terminal_nature t) → IsNumbered natures (own_nature t) → AlikeThing natures t thing.Faulty
  broken_alike t whole label known also =
      record {
        whole = whole;
        label = sym label;
        changing = λ h. absurd (cc);
        terminal_known = known;
        terminal = same_none (terminal_nature t);
        nature_known = also;
        nature = same_none (own_nature t);
      }

  pub signal_alike : (k n : ℕ) (s u : Subtype) (a b : Access) → AlikeThing natures (thing.Signal k s a) (thing.Signal n u b)
  signal_alike k n s u a b = record { whole = refl; label = refl; changing = λ h. h; terminal_known = tt; terminal = tt; nature_known = tt; nature = tt }

  pub constant_alike : (v w : Valued) → AlikeThing natures (constant_of v) (constant_of w)
  constant_alike v w = record { whole = refl; label = refl; changing = λ h. h; terminal_known = tt; terminal = tt; nature_known = tt; nature = tt }

  pub quantity_alike : (k n : ℕ) (q r : QuantityClass) → AlikeThing natures (thing.Quantity k q) (thing.Quantity n r)
  quantity_alike k n q r = record { whole = refl; label = refl; changing = λ h. h; terminal_known = tt; terminal = tt; nature_known = tt; nature = tt }

  pub type_alike : (s u : Subtype) → AlikeThing natures (thing.Type s None) (thing.Type u None)
  type_alike s u = record { whole = refl; label = refl; changing = λ h. h; terminal_known = tt; terminal = tt; nature_known = tt; nature = tt }

  pub literal_alike : (k p n q : ℕ) → AlikeThing natures (thing.Literal (val.Enum k p)) (thing.Literal (val.Enum n q))
  literal_alike k p n q = record { whole = refl; label = refl; changing = λ h. h; terminal_known = tt; terminal = tt; nature_known = tt; nature = tt }

  pub terminal_alike : (end also : Terminal) (m n : ℕ) → m < length natures → n ≡ at_instance natures m → AlikeThing natures (thing.Terminal end m) (thing.Terminal also n)
  terminal_alike end also m n known same = record { whole = refl; label = refl; changing = λ h. h; terminal_known = known; terminal = same; nature_known = tt; nature = tt }

  pub nature_alike : (m n : ℕ) → m < length natures → n ≡ at_instance natures m → AlikeThing natures (thing.Nature m) (thing.Nature n)
  nature_alike m n known same = record { whole = refl; label = refl; changing = λ h. h; terminal_known = tt; terminal = tt; nature_known = known; nature = same }

  -- ---- rules of names

  pub signals_alike : (texts : List (List ℕ)) (a b : Access) (v w : Valued) → RulesAlike natures (signal_of texts a v) (signal_of texts b w)
  signals_alike texts a b v w x c i n h =
      declared_alike natures (thing.Signal (length c.objects.signals) v.subtype a) (thing.Signal (length i.objects.signals) w.subtype b) x (with_signal texts v x c) (with_signal texts w x i)
      (signal_alike (length c.objects.signals) (length i.objects.signals) v.subtype w.subtype a b) n (with_books natures c i _ _ h)

  pub signals_broken : (texts : List (List ℕ)) (a : Access) (v : Valued) → RulesAlike natures (signal_of texts a v) faulty
  signals_broken texts a v x c i n h =
      declared_alike natures (thing.Signal (length c.objects.signals) v.subtype a) thing.Faulty x (with_signal texts v x c) i
      (broken_alike (thing.Signal (length c.objects.signals) v.subtype a) refl refl tt tt) n (with_books natures c i _ i.objects h)

  pub constants_alike : (v w : Valued) → RulesAlike natures (constant v) (constant w)
  constants_alike v w x c i n h = declared_alike natures (constant_of v) (constant_of w) x c i (constant_alike v w) n h

  pub constants_broken : (v : Valued) → RulesAlike natures (constant v) faulty
  constants_broken v x c i n h = declared_alike natures (constant_of v) thing.Faulty x c i (broken_alike (constant_of v) refl refl tt tt) n h

  pub nodes_alike : (texts : List (List ℕ)) (m n : ℕ) → m < length natures → n ≡ at_instance natures m → RulesAlike natures (node texts m) (node texts n)
  nodes_alike texts m n known same x c i g h =
      declared_alike natures (thing.Terminal (terminal.Node (length c.objects.nodes)) m) (thing.Terminal (terminal.Node (length i.objects.nodes)) n) x (with_node texts x c) (with_node texts x i)
      (terminal_alike (terminal.Node (length c.objects.nodes)) (terminal.Node (length i.objects.nodes)) m n known same) g (with_books natures c i _ _ h)

  pub nodes_broken : (texts : List (List ℕ)) (m : ℕ) → m < length natures → RulesAlike natures (node texts m) faulty
  nodes_broken texts m known x c i g h =
      declared_alike natures (thing.Terminal (terminal.Node (length c.objects.nodes)) m) thing.Faulty x (with_node texts x c) i
      (broken_alike (thing.Terminal (terminal.Node (length c.objects.nodes)) m) refl refl known tt) g (with_books natures c i _ i.objects h)

  pub quantities_alike : (texts : List (List ℕ)) (k n : QuantityKind) (q r : QuantityClass) (v w : ℤ) → RulesAlike natures (quantity_of texts k q v) (quantity_of texts n r w)
  quantities_alike texts k n q r v w x c i g h =
      declared_alike natures (thing.Quantity (length c.objects.quantities) q) (thing.Quantity (length i.objects.quantities) r) x (with_quantity texts k v x c) (with_quantity texts n w x i)
      (quantity_alike (length c.objects.quantities) (length i.objects.quantities) q r) g (with_books natures c i _ _ h)

  pub quantities_broken : (texts : List (List ℕ)) (k : QuantityKind) (q : QuantityClass) (v : ℤ) → RulesAlike natures (quantity_of texts k q v) faulty
  quantities_broken texts k q v x c i g h =
      declared_alike natures (thing.Quantity (length c.objects.quantities) q) thing.Faulty x (with_quantity texts k v x c) i
      (broken_alike (thing.Quantity (length c.objects.quantities) q) refl refl tt tt) g (with_books natures c i _ i.objects h)

  pub types_alike : (s u : Subtype) → RulesAlike natures (type_of_subtype s) (type_of_subtype u)
  types_alike s u x c i g h = declared_alike natures (thing.Type s None) (thing.Type u None) x c i (type_alike s u) g h

  pub types_broken : (s : Subtype) → RulesAlike natures (type_of_subtype s) faulty
  types_broken s x c i g h = declared_alike natures (thing.Type s None) thing.Faulty x c i (broken_alike (thing.Type s None) refl refl tt tt) g h

  -- ---- natures that are named

  abbrev own_of : Option Thing → Option ℕ
  own_of (Some t) = own_nature t
  own_of None = None

  own_is_of : (x : Name) (t : Thing) (n : Notes) → kept (judged nature_of (found_thing x (Some t) n).1) ≡ own_nature t
  own_is_of x (thing.Nature m) n = refl
  own_is_of x thing.Faulty n = refl
  own_is_of x _ n = refl

  own_is : (x : Name) (o : Option Thing) (n : Notes) → kept (judged nature_of (found_thing x o n).1) ≡ own_of o
  own_is x (Some t) n = own_is_of x t n
  own_is x None n = refl

  own_known : (o p : Option Thing) (m : ℕ) → AlikeFound natures o p → own_of o ≡ Some m → m < length natures
  own_known (Some t) (Some u) m h is = subst (λ (q : Option ℕ). IsNumbered natures q) is h.nature_known
  own_known None p m h is = absurd (cc)
  own_known (Some t) None m h is = absurd h

  own_same : (o p : Option Thing) (m n : ℕ) → AlikeFound natures o p → own_of o ≡ Some m → own_of p ≡ Some n → n ≡ at_instance natures m
  own_same (Some t) (Some u) m n h is also =
      subst (λ (q : Option ℕ). SameNature natures (Some m) q) also (subst (λ (q : Option ℕ). SameNature natures q (own_nature u)) is h.nature)
  own_same None p m n h is also = absurd (cc)
  own_same (Some t) None m n h is also = absurd h

  shown_nature : (t : Thing) → IsShown (nature_of t)
  shown_nature (thing.Nature m) = tt
  shown_nature _ = tt

  module _ (c i : Book) (alike : AlikeScopes natures c.scope i.scope) (x : Name) where
    pub nature_reads : Reads (Part ℕ) (Part ℕ) IsShown c.notes (nature_named x c) i.notes (nature_named x i)
    nature_reads =
        let r = found_reads natures x (lookup c.scope x.number) (lookup i.scope x.number) c.notes i.notes (alike.seen x.number) in
        record {
          notes = r.notes;
          right = λ h. shown_judged Thing ℕ nature_of (found_thing x (lookup c.scope x.number) c.notes).1 shown_nature (r.right h);
        }

    named_own : (b : Book) (m : ℕ) → (nature_named x b).1 ≡ Kept m → own_of (lookup b.scope x.number) ≡ Some m
    named_own b m is = sym (own_is x (lookup b.scope x.number) b.notes) ∙ ap kept is

    pub nature_known : (m : ℕ) → (nature_named x c).1 ≡ Kept m → m < length natures
    nature_known m is = own_known (lookup c.scope x.number) (lookup i.scope x.number) m (alike.seen x.number) (named_own c m is)

    pub nature_same : (m n : ℕ) → (nature_named x c).1 ≡ Kept m → (nature_named x i).1 ≡ Kept n → n ≡ at_instance natures m
    nature_same m n is also = own_same (lookup c.scope x.number) (lookup i.scope x.number) m n (alike.seen x.number) (named_own c m is) (named_own i n also)

  -- ---- free quantities

  shown_free : (s : Subtype) → IsShown (free_of s)
  shown_free s = shown_where Subtype _ s

  free_value_reads : (texts : List (List ℕ)) (a b : Scope) (alike : AlikeScopes natures a b) (p q : Part Subtype) (y : Option Expr) (c i : Notes) → (HasNoFaults c → IsShown p)
      → Reads (Part ℤ) (Part ℤ) IsShown c (free_value texts a p y c) i (free_value texts b q y i)
  free_value_reads texts a b alike p q None c i shown = record { notes = follows_same c i; right = λ h. shown_judged Subtype ℤ (λ (k : Subtype). Kept (pos 0)) p (λ k. tt) (shown h) }
  free_value_reads texts a b alike p q (Some y) c i shown =
      let r = initial_reads natures a b alike texts p q (Some y) c i shown in
      record { notes = r.notes; right = λ h. shown_judged Valued ℤ (λ (k : Valued). Kept (initial_real k.value)) (initial texts a p (Some y) c).1 (λ k. tt) (r.right h) }

  pub free_reads : (texts : List (List ℕ)) (s : SubtypeIndication) (y : Option Expr) (c i : Book) → AlikeScopes natures c.scope i.scope
      → Reads (Part ℤ) (Part ℤ) IsShown c.notes (free_quantity texts s y c) i.notes (free_quantity texts s y i)
  free_reads texts s y c i alike =
      let f = subtype texts c.scope s c.notes in
      let g = subtype texts i.scope s i.notes in
      let first : Reads (Part Subtype) (Part Subtype) IsShown c.notes f i.notes g = subtype_reads natures c.scope i.scope alike texts s c.notes i.notes in
      let v = free_value texts c.scope (judged free_of f.1) y f.0 in
      let w = free_value texts i.scope (judged free_of g.1) y g.0 in
      let whole : Reads (Part ℤ) (Part ℤ) IsShown f.0 v g.0 w =
      free_value_reads texts c.scope i.scope alike (judged free_of f.1) (judged free_of g.1) y f.0 g.0 (λ h. shown_judged Subtype Subtype free_of f.1 shown_free (first.right h)) in
      record { notes = follows_on c.notes f.0 v.0 i.notes g.0 w.0 first.notes whole.notes; right = whole.right }
