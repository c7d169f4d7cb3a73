-- A process is ready for its next run.
use Rattle.std.proofs.Common.{◌≡◌, refl, ap, sym, ◌∙◌, subst, ℕ, Bool, true, false, ◌||◌, nat_eq, ℤ, List, [], ◌∷◌, ◌++◌, Some, arith}
use Rattle.std.specs.List.{slice_get, list_any}
use Rattle.std.proofs.lemmas.Bool.Decides.{nat_tests}
use Rattle.std.proofs.lemmas.List.Folds.{list_any-append}
use Rattle.ams_value.specs.declared.val.Val.{Val}
use Rattle.flat_expr.specs.declared.statement.Statement.TheOpen.{Statement-F}
use Rattle.flat_design.specs.declared.objects.Process.{Process}
use Rattle.flat_design.specs.declared.objects.Objects.{Objects}
use Rattle.design_meaning.specs.Typed.{Reads}
use Rattle.cycle_meaning.specs.Task.{Layer}
use Rattle.cycle_meaning.specs.World.{World, Context, Local, readings_at}
use Rattle.cycle_meaning.specs.Processes.{parameters_at}
use Rattle.design_rules.specs.Ways.{parameter_in}
use Rattle.design_rules.specs.Types.{process_scope}
use Rattle.design_rules.specs.Design.{IsProcess}
use Rattle.process_laws.specs.Resumed.{Surroundings, outermost, inside}
use Rattle.process_laws.specs.Held.{begun_again, kept_variables}
use Rattle.process_laws.proofs.Places.{way, parameters_round}
use Rattle.process_place.specs.ProcessPlace.{ProcessPlace}
use Rattle.process_ready.specs.Allowed.{LeadsOn, LeadRound, LeadAt}
use Rattle.process_ready.specs.Ready.{IsReady, GoesReady}
use Rattle.process_ready.proofs.Allowed.{leads_to, as_many}
use Rattle.process_stack.specs.Stacks.{place_of}
use Rattle.process_rest.specs.Resting.{IsWorld, StartsReady, RestsReady, GoesOnReady}
use Rattle.process_rest.proofs.Begins.{seen_same, kinds_begun, ranges_begun, kinds_initial, ranges_initial}
use Rattle.process_rest.proofs.Behind.{IsBehind, EndsBehind, run_behind}

-- ---- the parameters of the loops round a place

abbrev SameFor : List Val → List Val → List ℕ → Type 0
SameFor vs us ps = (q : ℕ) → list_any (nat_eq q) ps ≡ true → slice_get us q ≡ slice_get vs q

any_left : (t : ℕ → Bool) (xs ys : List ℕ) → list_any t xs ≡ true → list_any t (xs ++ ys) ≡ true
any_left t xs ys h = list_any-append t xs ys ∙ ap (λ b. b || list_any t ys) h

any_right : (t : ℕ → Bool) (xs ys : List ℕ) → list_any t ys ≡ true → list_any t (xs ++ ys) ≡ true
any_right t xs ys h = list_any-append t xs ys ∙ (ap (λ b. list_any t xs || b) h ∙ or_true (list_any t xs))
  where
    or_true : (a : Bool) → (a || true) ≡ true
    or_true true = refl
    or_true false = refl

itself : (q : ℕ) → list_any (nat_eq q) (q ∷ []) ≡ true
itself q = ap (λ b. b || false) (same q)
  where
    same : (i : ℕ) → nat_eq i i ≡ true
    same i = grind (arith, nat_tests)

leads_same : (vs us : List Val) (layer : Layer) (last : ℤ) → SameFor vs us (parameter_in layer) → LeadsOn vs layer last → LeadsOn us layer last
leads_same vs us (Statement-F.For p left direction right body) last same way = (way.0, same p (itself p) ∙ way.1, way.2, way.3)
leads_same vs us (Statement-F.SignalAssignment _ _ _ _) last same way = tt
leads_same vs us (Statement-F.VariableAssignment _ _ _) last same way = tt
leads_same vs us (Statement-F.If _ _) last same way = tt
leads_same vs us (Statement-F.Case _ _) last same way = tt
leads_same vs us (Statement-F.Loop _ _) last same way = tt
leads_same vs us (Statement-F.Exit _) last same way = tt
leads_same vs us (Statement-F.Next _) last same way = tt
leads_same vs us (Statement-F.Wait _ _ _ _) last same way = tt
leads_same vs us (Statement-F.Assert _ _ _) last same way = tt
leads_same vs us (Statement-F.Report _ _) last same way = tt
leads_same vs us (Statement-F.Break _ _) last same way = tt
leads_same vs us Statement-F.Null last same way = tt

lead_same : (vs us : List Val) (c : Surroundings) → SameFor vs us (parameters_round c) → LeadRound vs c → LeadRound us c
unfolding parameters_round
lead_same vs us outermost same way = tt
lead_same vs us (inside c k b layer last) same way = (
  lead_same vs us c (λ q h. same q (any_left (nat_eq q) (parameters_round c) (parameter_in layer) h)) way.0,
  leads_same vs us layer last (λ q h. same q (any_right (nat_eq q) (parameters_round c) (parameter_in layer) h)) way.1,
)

-- ---- a process that waits

-- the parameters of the loops round the wait are those of the place
round_wait : (here : Context) (p : Process) (l : Local) → IsReady here p l → (k : ℕ) (q : ProcessPlace) (b : IsBehind p.statements k q) → parameters_at (slice_get p.waits k) ≡ parameters_round b.round ++ []
round_wait here p l ready k q b =
    ap parameters_at (ready.rules.ways (way b.round ++ []) (parameters_round b.round ++ []) b.statement k b.on b.condition b.timeout
    (leads_to p.statements b.round b.statement (Statement-F.Wait k b.on b.condition b.timeout) b.of_text b.wait_is))

-- ready with other variables
ready_with_all : (here : Context) (p : Process) (l : Local) → IsReady here p l → (ps : List ℕ) → IsReady here p (record l { variables = begun_again p.variables ps 0 l.variables })
ready_with_all here p l ready ps =
    record {
      process_is = ready.process_is;
      rules = ready.rules;
      reads = record {
        signals = ready.reads.signals;
        signals_range = ready.reads.signals_range;
        thresholds = ready.reads.thresholds;
        thresholds_kind = ready.reads.thresholds_kind;
        domain = ready.reads.domain;
        domain_range = ready.reads.domain_range;
        quantities = ready.reads.quantities;
        references = ready.reads.references;
        dots = ready.reads.dots;
        variables = kinds_begun here.objects p.variables ps 0 l.variables ready.rules.variables ready.reads.variables;
        variables_range = ranges_begun here.objects p.variables ps 0 l.variables ready.rules.variables ready.reads.variables_range;
        now = ready.reads.now;
      };
    }

way_with_all : (here : Context) (p : Process) (l : Local) → IsReady here p l → (k : ℕ) (q : ProcessPlace) → IsBehind p.statements k q → LeadAt l.variables q → LeadAt (kept_variables p k l) q
way_with_all here p l ready k q b h =
    let c : Surroundings = b.round in
    let before : LeadRound l.variables c = subst (LeadAt l.variables) b.place_is h in
    subst (LeadAt (kept_variables p k l)) (sym b.place_is)
    (lead_same l.variables (kept_variables p k l) c
    (λ i seen. seen_same p.variables (parameters_at (slice_get p.waits k)) 0 l.variables i (as_many here p l ready)
    (ap (λ (n : ℕ). list_any (nat_eq n) (parameters_at (slice_get p.waits k))) (omega arith)
    ∙ (ap (list_any (nat_eq i)) (round_wait here p l ready k q b) ∙ any_left (nat_eq i) (parameters_round c) [] seen)))
    before)

the_same : (here : Context) (p q : Process) → slice_get here.objects.processes here.process ≡ Some p → slice_get here.objects.processes here.process ≡ Some q → q ≡ p
the_same here p q a b = cc

pub rests_ready : RestsReady
rests_ready here p budget before after from s k t process_is there run h =
    let behind : IsBehind p.statements k (place_of p.statements s) = subst (EndsBehind p.statements) run (run_behind budget here p.statements before from there) in
    let same : h.process ≡ p = the_same here p h.process process_is h.ready.ready.process_is in
    let ready : GoesReady here p after (place_of p.statements s) = subst (λ z. GoesReady here z after (place_of p.statements s)) same h.ready in
    record {
      process = p;
      text_is = refl;
      of_text = h.of_text;
      is_in = h.is_in;
      ready = record {
        ready = ready_with_all here p after ready.ready (parameters_at (slice_get p.waits k));
        way = way_with_all here p after ready.ready k (place_of p.statements s) behind ready.way;
      };
    }

-- ---- the first run

pub starts_ready : StartsReady
starts_ready here w p process_is rules world =
    record {
      process = p;
      text_is = refl;
      of_text = tt;
      is_in = tt;
      ready = record {
        ready = record {
          process_is = process_is;
          rules = rules;
          reads = record {
            signals = world.signals;
            signals_range = world.signals_range;
            thresholds = world.thresholds;
            thresholds_kind = world.thresholds_kind;
            domain = world.domain;
            domain_range = world.domain_range;
            quantities = world.quantities;
            references = world.references;
            dots = world.dots;
            variables = kinds_initial here.objects p.variables rules.variables;
            variables_range = ranges_initial here.objects p.variables rules.variables;
            now = world.now;
          };
        };
        way = tt;
      };
    }

-- ---- a later run

later_ready : (here later : Context) (p : Process) (l : Local) (w : World) → later.objects ≡ here.objects → later.process ≡ here.process → IsWorld later w → IsReady here p l
    → IsReady later p (record { world = w; variables = l.variables })
later_ready here later p l w objects_are process_is world ready =
    let process_there : slice_get later.objects.processes later.process ≡ Some p =
    ap (slice_get later.objects.processes) process_is ∙ (ap (λ (o : Objects). slice_get o.processes here.process) objects_are ∙ ready.process_is) in
    let rules : IsProcess later.objects p = subst (λ (o : Objects). IsProcess o p) (sym objects_are) ready.rules in
    let reads : Reads (process_scope later.objects p) (readings_at here l) = subst (λ (o : Objects). Reads (process_scope o p) (readings_at here l)) (sym objects_are) ready.reads in
    record {
      process_is = process_there;
      rules = rules;
      reads = record {
        signals = world.signals;
        signals_range = world.signals_range;
        thresholds = world.thresholds;
        thresholds_kind = world.thresholds_kind;
        domain = world.domain;
        domain_range = world.domain_range;
        quantities = world.quantities;
        references = world.references;
        dots = world.dots;
        variables = reads.variables;
        variables_range = reads.variables_range;
        now = world.now;
      };
    }

pub goes_on_ready : GoesOnReady
goes_on_ready here later l w top s objects_are process_is world h =
    record {
      process = h.process;
      text_is = h.text_is;
      of_text = h.of_text;
      is_in = h.is_in;
      ready = record {
        ready = later_ready here later h.process l w objects_are process_is world h.ready.ready;
        way = h.ready.way;
      };
    }
