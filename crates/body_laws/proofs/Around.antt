-- What stands round statements: drafts at the front of a process, scopes in loops, parameters.
use Rattle.std.proofs.Common.{◌≡◌, ℕ, ◌⊎◌, inl, inr, ⊎_elim, Bool, true, false, if◌then◌else◌, List, [], ◌∷◌, ◌++◌, length, Option, Some, IfSome, refl, ap, sym, ◌∙◌, subst}
use Rattle.std.specs.Prelude.{nat_eq}
use Rattle.std.specs.List.{slice_get, list_any}
use Rattle.ams_value.specs.declared.value_type.ValueType.TheVariants.{Integer}
use Rattle.flat_design.specs.declared.objects.Objects.{Objects}
use Rattle.flat_design.specs.declared.objects.Process.{Process}
use Rattle.flat_design.specs.declared.objects.Variable.{Variable}
use Rattle.flat_design.specs.declared.objects.WaitPlace.{WaitPlace}
use Rattle.name_scope.specs.declared.scope.Scope.{Scope}
use Rattle.name_scope.specs.declared.thing.Thing.{Thing}
use Rattle.name_scope.specs.declared.thing.Thing.TheVariants as thing
use Rattle.name_scope.specs.Scopes.{visible, or_in, among, inside, with_name}
use Rattle.elab_meaning.specs.declared.fault.Fault.{Fault}
use Rattle.elab_meaning.specs.declared.fault.Notes.{Notes}
use Rattle.unit_meaning.specs.declared.draft.Draft.{Draft}
use Rattle.unit_meaning.specs.Settings.{Setting}
use Rattle.unit_meaning.specs.Sequential.{with_driver}
use Rattle.design_rules.specs.Types.{process_scope}
use Rattle.reading_laws.specs.Growing.{Extends, Grows}
use Rattle.typed_laws.proofs.Typing.{room_before}
use Rattle.scope_laws.specs.Holds.{HasNoFaults}
use Rattle.scope_laws.proofs.Names.{with_one, named_holds, inside_same, inside_holds}
use Rattle.scope_laws.proofs.Scopes.{scopes_hold}
use Rattle.draft_laws.specs.Drafts.{DraftGrows}
use Rattle.draft_laws.proofs.Drafts.{extends_on}
use Rattle.allowed_laws.specs.Simple.{IsSelectorAt, SelectorsFit}
use Rattle.allowed_laws.proofs.Targets.{kind_at}
use Rattle.body_laws.specs.Bodies.{StandsIn, Keeps, ScopeStands, AreParameters}
use Rattle.body_laws.proofs.Lists.{any_end, any_more, any_split, front_at, none_at_end}

-- no fault before where there is none behind
nothing_before : (xs more : List Fault) → xs ++ more ≡ [] → xs ≡ []
nothing_before [] more h = refl
nothing_before (x ∷ xs) more h = absurd (cc)

pub no_faults_before : (a b : Notes) → Grows a b → HasNoFaults b → HasNoFaults a
no_faults_before a b g h = nothing_before a.faults g.faults.more (sym g.faults.whole ∙ h)

pub stands_before : (objects : Objects) (p : Process) (a b : Draft) → DraftGrows a b → StandsIn objects p b → StandsIn objects p a
stands_before objects p a b g h =
    record {
      faults = no_faults_before a.notes b.notes g.notes h.faults;
      room = room_before (process_scope objects p) a.notes b.notes g.notes h.room;
      variables = extends_on Variable a.variables b.variables p.variables g.variables h.variables;
      drivers = extends_on ℕ a.drivers b.drivers p.drivers g.drivers h.drivers;
      waits = extends_on WaitPlace a.waits b.waits p.waits g.waits h.waits;
    }

-- ---- drivers

pub new_driver : (i : ℕ) (d : Draft) → list_any (nat_eq i) (with_driver i d).drivers ≡ true
new_driver i d = go (list_any (nat_eq i) d.drivers) refl
  where
    go : (b : Bool) → list_any (nat_eq i) d.drivers ≡ b → list_any (nat_eq i) (if b then d else record d { drivers = d.drivers ++ i ∷ [] }).drivers ≡ true
    go true h = h
    go false h = any_end i d.drivers

pub old_or_new_driver : (i j : ℕ) (d : Draft) → list_any (nat_eq j) (with_driver i d).drivers ≡ true → (list_any (nat_eq j) d.drivers ≡ true) ⊎ (j ≡ i)
old_or_new_driver i j d h = go (list_any (nat_eq i) d.drivers) h
  where
    go : (b : Bool) → list_any (nat_eq j) (if b then d else record d { drivers = d.drivers ++ i ∷ [] }).drivers ≡ true → (list_any (nat_eq j) d.drivers ≡ true) ⊎ (j ≡ i)
    go true k = inl k
    go false k = any_split j d.drivers i k

-- ---- parameters

pub parameters_on : (xs ys : List Variable) (ps : List ℕ) → Extends Variable xs ys → AreParameters xs ps → AreParameters ys ps
parameters_on xs ys ps e h i is =
    let found = h i is in
    (found.0, front_at Variable xs ys e i found.0 found.1, found.2)

pub parameters_more : (xs : List Variable) (x : Variable) (ps : List ℕ) → x.is_parameter ≡ true → AreParameters xs ps → AreParameters (xs ++ x ∷ []) (ps ++ length xs ∷ [])
parameters_more xs x ps is h i any =
    ⊎_elim
    (λ old. parameters_on xs (xs ++ x ∷ []) ps (record { more = x ∷ []; whole = refl }) h i old)
    (λ last. (x, subst (λ (n : ℕ). slice_get (xs ++ x ∷ []) n ≡ Some x) (sym last) (last_at xs), is))
    (any_split i ps (length xs) any)
  where
    last_at : (xs : List Variable) → slice_get (xs ++ x ∷ []) (length xs) ≡ Some x
    last_at [] = refl
    last_at (y ∷ xs) = last_at xs

-- the number of the next variable is none of them
pub next_is_new : (xs : List Variable) (ps : List ℕ) → AreParameters xs ps → list_any (nat_eq (length xs)) ps ≡ true → ⊥
next_is_new xs ps h any =
    let found = h (length xs) any in
    none_at_end Variable xs found.0 found.1

-- ---- the scope of a loop

module _ (objects : Objects) (p : Process) (ps : List ℕ) (w : Setting) (Also : Thing → Bool) (scope : Scope) (i x : ℕ) where
  selectors_in : SelectorsFit objects w scope → SelectorsFit objects w (with_name (inside scope) x (thing.Parameter i))
  selectors_in h y any =
      with_one (λ (o : Option Thing). IfSome (or_in (visible o) (among (inside scope).outer y)) (IsSelectorAt objects)) (inside scope).inner x (thing.Parameter i) y
      (subst (λ (o : Option Thing). IfSome o (IsSelectorAt objects)) (sym (inside_same scope y)) (h y any)) (λ k. tt)

  pub scope_in_loop : (v : Variable) → slice_get p.variables i ≡ Some v → v.kind ≡ Integer → Keeps Also (thing.Parameter i) → ScopeStands objects p ps w Also scope
      → ScopeStands objects p (ps ++ i ∷ []) w Also (with_name (inside scope) x (thing.Parameter i))
  scope_in_loop v at kind also h =
      record {
        holds =
            scopes_hold.named (process_scope objects p) p.variables (ps ++ i ∷ []) (inside scope) x (thing.Parameter i)
            (scopes_hold.inner (process_scope objects p) p.variables (ps ++ i ∷ []) scope
            (scopes_hold.in_loop (process_scope objects p) p.variables ps (ps ++ i ∷ []) scope (λ j is. any_more j ps i is) h.holds))
            (record { fits = (kind_at Variable (λ (z : Variable). z.kind) p.variables i v at ∙ ap Some kind, inr (any_end i ps)); also = tt });
        selectors = selectors_in h.selectors;
        also = named_holds (Keeps Also) (inside scope) x (thing.Parameter i) (inside_holds (Keeps Also) scope h.also) also;
      }
