-- The world at the start and at the beginning of a cycle.
use Rattle.std.proofs.Common.{◌≡◌, refl, ap, sym, ◌∙◌, subst, ℕ, suc, ◌+◌, Bool, true, false, ◌||◌, if◌then◌else◌, ℤ, List, [], ◌∷◌, map, length, drop, Option, Some, None, arith}
use Rattle.std.specs.Prelude.{IsTrue, IfSome, nat_lt, get_or}
use Rattle.std.specs.List.{All, slice_get}
use Rattle.std.proofs.lemmas.List.{length-take, length-drop, length-map}
use Rattle.std.proofs.lemmas.List.Elements.{All-nil, All-cons, All-head, All-tail, All-map}
use Rattle.ams_value.specs.declared.val.Val.{Val}
use Rattle.ams_value.specs.declared.val.Val.TheVariants as val
use Rattle.ams_value.specs.declared.value_type.ValueType.TheVariants.{Boolean, Enumeration}
use Rattle.ams_value.specs.Types.{type_of, is_in_range}
use Rattle.flat_design.specs.declared.objects.Signal.{Signal}
use Rattle.flat_design.specs.declared.objects.Threshold.{Threshold}
use Rattle.flat_design.specs.declared.objects.Enumeration.{Enumeration as EnumerationType}
use Rattle.flat_design.specs.declared.objects.Objects.{Objects}
use Rattle.flat_design.specs.Order.{unknown_count}
use Rattle.step_data.specs.declared.trans.Trans.{Trans}
use Rattle.step_data.specs.declared.breaks.Element.{Element}
use Rattle.step_data.specs.Pending.{due}
use Rattle.step_data.specs.Thresholds.{is_above}
use Rattle.step_model.specs.System.{Digital}
use Rattle.design_meaning.specs.Readings.{Seen, still}
use Rattle.design_meaning.specs.Reading.{quantities_in, references_in, dots_in, quiescent_domain, time_domain}
use Rattle.design_meaning.specs.Typed.{IsOfType}
use Rattle.cycle_meaning.specs.World.{driven_of}
use Rattle.cycle_meaning.specs.Cycles.{changed, with_thresholds, driving, queue_in, with_driving}
use Rattle.design_rules.specs.Types.{sizes_of}
use Rattle.design_rules.specs.Design.{domain_type, IsSignal, IsDesign}
use Rattle.system_model.specs.System.{is_element}
use Rattle.run_laws.specs.Values.{IsOfSignal, QueuesFit, ValuesFit, AreElements, FirstFits, BegunFits, WorldStays, KeptFits}
use Rattle.run_types.proofs.Queues.{queue_fits, due_has, advanced_fit, nothing_fits}

abbrev pub InRange : Objects → Val → Type 0
InRange objects v = IsTrue (is_in_range (sizes_of objects) v)

abbrev pub SeenInRange : Objects → Seen → Type 0
SeenInRange objects s = IsTrue (is_in_range (sizes_of objects) s.value)

-- ---- signals

-- signals that are read, with values of these types
pub record AreSeen (objects : Objects) (signals : List Signal) (seen : List Seen) : Type 0 where
  pub kinds : map (λ (s : Seen). type_of s.value) seen ≡ map (λ (s : Signal). s.kind) signals
  pub ranges : All (SeenInRange objects) seen

driving_typed : (objects : Objects) (s : Signal) (v : Val) (o : Option Trans) → IsOfType (sizes_of objects) s.kind v → IfSome o (λ (x : Trans). IsOfType (sizes_of objects) s.kind x.value)
    → IsOfType (sizes_of objects) s.kind (driving (still v) o).value
driving_typed objects s v None typed h = typed
driving_typed objects s v (Some x) typed h = h

of_due : (objects : Objects) (i : ℕ) (s : Signal) → slice_get objects.signals i ≡ Some s → (o : Option Trans) → IfSome o (λ (x : Trans). IsOfSignal objects i x.value) → IfSome o (λ (x : Trans). IsOfType (sizes_of objects) s.kind x.value)
of_due objects i s is None h = tt
of_due objects i s is (Some x) h = h s is

-- these are the signals of the design from a number on
abbrev AreFrom : Objects → ℕ → List Signal → Type 0
AreFrom objects i signals = (j m : ℕ) (s : Signal) → m ≡ i + j → slice_get signals j ≡ Some s → slice_get objects.signals m ≡ Some s

driven_typed : (objects : Objects) (t i : ℕ) (queues : List (List Trans)) (signals : List Signal) (vs : List Val) → QueuesFit objects queues → AreFrom objects i signals
    → map type_of vs ≡ map (λ (s : Signal). s.kind) signals → All (InRange objects) vs → AreSeen objects signals (with_driving t (driven_of objects) queues i vs)
driven_typed objects t i queues [] [] fit from kinds ranges = record { kinds = refl; ranges = All-nil (SeenInRange objects) }
driven_typed objects t i queues [] (v ∷ vs) fit from kinds ranges = absurd cc
driven_typed objects t i queues (s ∷ signals) [] fit from kinds ranges = absurd cc
driven_typed objects t i queues (s ∷ signals) (v ∷ vs) fit from kinds ranges =
    let first : type_of v ≡ s.kind = cc in
    let rest : map type_of vs ≡ map (λ (s : Signal). s.kind) signals = cc in
    let there : slice_get objects.signals i ≡ Some s = from 0 i s (omega arith) refl in
    let one : IsOfType (sizes_of objects) s.kind (driving (still v) (due t (queue_in i (driven_of objects) queues))).value =
    driving_typed objects s v (due t (queue_in i (driven_of objects) queues)) (record { kind_is = first; range = All-head (InRange objects) v vs ranges })
    (of_due objects i s there (due t (queue_in i (driven_of objects) queues))
    (due_has (λ (x : Trans). IsOfSignal objects i x.value) t (queue_in i (driven_of objects) queues) (queue_fits objects i (driven_of objects) queues fit))) in
    let more : AreSeen objects signals (with_driving t (driven_of objects) queues (i + 1) vs) =
    driven_typed objects t (i + 1) queues signals vs fit (λ j m z e is. from (suc j) m z (omega (arith, e)) is) rest (All-tail (InRange objects) v vs ranges) in
    joined (driving (still v) (due t (queue_in i (driven_of objects) queues))) (with_driving t (driven_of objects) queues (i + 1) vs) one more
  where
    joined : (z : Seen) (zs : List Seen) → IsOfType (sizes_of objects) s.kind z.value → AreSeen objects signals zs → AreSeen objects (s ∷ signals) (z ∷ zs)
    joined z zs one more =
        record {
          kinds = ap (λ k. k ∷ map (λ (x : Seen). type_of x.value) zs) one.kind_is ∙ ap (λ ks. s.kind ∷ ks) more.kinds;
          ranges = All-cons (SeenInRange objects) z zs one.range more.ranges;
        }

pub begun_signals : (objects : Objects) (d : Digital) (t : ℕ) → ValuesFit objects d.signals d.queues → AreSeen objects objects.signals (with_driving t (driven_of objects) d.queues 0 d.signals)
begun_signals objects d t fit =
    driven_typed objects t 0 d.queues objects.signals d.signals fit.queues (λ j m s e is. subst (λ n. slice_get objects.signals n ≡ Some s) (omega (arith, e)) is) fit.kinds fit.ranges

first_signals : (objects : Objects) (signals : List Signal) → All (IsSignal objects) signals → AreSeen objects signals (map (λ (s : Signal). still s.initial) signals)
first_signals objects [] all = record { kinds = refl; ranges = All-nil (SeenInRange objects) }
first_signals objects (s ∷ signals) all =
    let one : IsOfType (sizes_of objects) s.kind s.initial = (All-head (IsSignal objects) s signals all).initial_is in
    let more : AreSeen objects signals (map (λ (s : Signal). still s.initial) signals) = first_signals objects signals (All-tail (IsSignal objects) s signals all) in
    record {
      kinds = ap (λ k. k ∷ map (λ (x : Seen). type_of x.value) (map (λ (s : Signal). still s.initial) signals)) one.kind_is ∙ ap (λ ks. s.kind ∷ ks) more.kinds;
      ranges = All-cons (SeenInRange objects) (still s.initial) (map (λ (s : Signal). still s.initial) signals) one.range more.ranges;
    }

-- ---- thresholds

abbrev IsTruth : Seen → Type 0
IsTruth s = type_of s.value ≡ Boolean

count_thresholds : (x : List ℤ) (ks : List Threshold) (kept : List Bool) → length (with_thresholds x ks kept) ≡ length ks
count_thresholds x [] kept = refl
count_thresholds x (k ∷ ks) [] = ap suc (count_thresholds x ks [])
count_thresholds x (k ∷ ks) (b ∷ kept) = ap suc (count_thresholds x ks kept)

thresholds_are_truths : (x : List ℤ) (ks : List Threshold) (kept : List Bool) → All IsTruth (with_thresholds x ks kept)
thresholds_are_truths x [] kept = All-nil IsTruth
thresholds_are_truths x (k ∷ ks) [] =
    All-cons IsTruth (changed (still (val.Bool false)) (val.Bool (is_above x k.quantity k.level))) (with_thresholds x ks []) refl (thresholds_are_truths x ks [])
thresholds_are_truths x (k ∷ ks) (b ∷ kept) =
    All-cons IsTruth (changed (still (val.Bool b)) (val.Bool (is_above x k.quantity k.level))) (with_thresholds x ks kept) refl (thresholds_are_truths x ks kept)

all_off : (ks : List Threshold) → All IsTruth (map (λ (k : Threshold). still (val.Bool false)) ks)
all_off [] = All-nil IsTruth
all_off (k ∷ ks) = All-cons IsTruth (still (val.Bool false)) (map (λ (k : Threshold). still (val.Bool false)) ks) refl (all_off ks)

-- ---- DOMAIN

abbrev HasDomain : Objects → Val → Type 0
HasDomain objects v = (type_of v ≡ Enumeration 0) × InRange objects v

domain_by : (objects : Objects) (b : Bool) → HasDomain objects time_domain → HasDomain objects quiescent_domain → HasDomain objects (if b then time_domain else quiescent_domain)
domain_by objects true x y = x
domain_by objects false x y = y

literal_there : (types : List EnumerationType) (n : ℕ) → slice_get types 0 ≡ Some domain_type → nat_lt n 3 ≡ true → nat_lt n (get_or (map (λ (x : EnumerationType). length x.literals) types) 0 0) ≡ true
literal_there [] n is h = absurd cc
literal_there (x ∷ types) n is h =
    let same : domain_type ≡ x = cc in
    subst (λ (z : EnumerationType). nat_lt n (length z.literals) ≡ true) same h

domains : (objects : Objects) → IsDesign objects → HasDomain objects time_domain × HasDomain objects quiescent_domain
domains objects design = ((refl, literal_there objects.enumerations 1 design.domain refl), (refl, literal_there objects.enumerations 0 design.domain refl))

-- ---- unknowns

pub record HaveLengths (objects : Objects) (x : List ℤ) : Type 0 where
  pub quantities : length (quantities_in objects x) ≡ length objects.quantities
  pub references : length (references_in objects x) ≡ length objects.nodes
  pub dots : length (dots_in objects x) ≡ length objects.dots

have_lengths : (objects : Objects) (x : List ℤ) → length x ≡ unknown_count objects → HaveLengths objects x
have_lengths objects x h =
    record {
      quantities = omega (arith, h, length-take (length objects.quantities) x);
      references = omega (arith, h, length-take (length objects.nodes) (drop (length objects.quantities) x), length-drop (length objects.quantities) x);
      dots = omega (arith, h, length-drop (length objects.quantities + length objects.nodes) x);
    }

-- ---- the worlds

no_elements : (objects : Objects) → AreElements objects []
no_elements objects = All-nil (λ (e : Element). IsTrue (is_element objects e))

pub begun_fits : BegunFits
begun_fits objects d t n x to_time process design fit count now =
    let seen = begun_signals objects d t fit in
    let lengths = have_lengths objects x count in
    let domain = domain_by objects (d.timed || to_time) (domains objects design).0 (domains objects design).1 in
    record {
      world = record {
        signals = seen.kinds;
        signals_range = seen.ranges;
        thresholds = count_thresholds x objects.thresholds d.kept;
        thresholds_kind = thresholds_are_truths x objects.thresholds d.kept;
        domain = domain.0;
        domain_range = domain.1;
        quantities = lengths.quantities;
        references = lengths.references;
        dots = lengths.dots;
        now = now;
      };
      queues = advanced_fit objects t (driven_of objects) d.queues fit.queues;
      elements = no_elements objects;
    }

pub first_fits : FirstFits
first_fits objects x process design count =
    let seen = first_signals objects objects.signals design.signals in
    let lengths = have_lengths objects x count in
    record {
      world = record {
        signals = seen.kinds;
        signals_range = seen.ranges;
        thresholds = length-map objects.thresholds (λ (k : Threshold). still (val.Bool false));
        thresholds_kind = all_off objects.thresholds;
        domain = (domains objects design).1.0;
        domain_range = (domains objects design).1.1;
        quantities = lengths.quantities;
        references = lengths.references;
        dots = lengths.dots;
        now = omega arith;
      };
      queues = nothing_fits objects (driven_of objects);
      elements = no_elements objects;
    }

pub world_stays : WorldStays
world_stays here w v signals thresholds domain h =
    record {
      signals = ap (map (λ (s : Seen). type_of s.value)) signals ∙ h.signals;
      signals_range = subst (All (SeenInRange here.objects)) (sym signals) h.signals_range;
      thresholds = ap (λ (ks : List Seen). length ks) thresholds ∙ h.thresholds;
      thresholds_kind = subst (All IsTruth) (sym thresholds) h.thresholds_kind;
      domain = ap (λ (s : Seen). type_of s.value) domain ∙ h.domain;
      domain_range = subst (SeenInRange here.objects) (sym domain) h.domain_range;
      quantities = h.quantities;
      references = h.references;
      dots = h.dots;
      now = h.now;
    }

types_of_values : (seen : List Seen) → map type_of (map (λ (s : Seen). s.value) seen) ≡ map (λ (s : Seen). type_of s.value) seen
types_of_values [] = refl
types_of_values (s ∷ seen) = ap (λ ks. type_of s.value ∷ ks) (types_of_values seen)

pub kept_fits : KeptFits
kept_fits here w h =
    record {
      kinds = types_of_values w.signals ∙ h.world.signals;
      ranges = All-map (InRange here.objects) (λ (s : Seen). s.value) w.signals h.world.signals_range;
      queues = h.queues;
    }

initial_values : (objects : Objects) (signals : List Signal) → map (λ (s : Seen). s.value) (map (λ (s : Signal). still s.initial) signals) ≡ map (λ (s : Signal). s.initial) signals
initial_values objects [] = refl
initial_values objects (s ∷ signals) = ap (λ vs. s.initial ∷ vs) (initial_values objects signals)

-- the values before the start
pub first_values_fit : (objects : Objects) → IsDesign objects → ValuesFit objects (map (λ (s : Signal). s.initial) objects.signals) (map (λ i. []) (driven_of objects))
first_values_fit objects design =
    let seen = first_signals objects objects.signals design.signals in
    let values : List Val = map (λ (s : Seen). s.value) (map (λ (s : Signal). still s.initial) objects.signals) in
    subst (λ vs. ValuesFit objects vs (map (λ i. []) (driven_of objects))) (initial_values objects objects.signals)
    (record {
      kinds = types_of_values (map (λ (s : Signal). still s.initial) objects.signals) ∙ seen.kinds;
      ranges = All-map (InRange objects) (λ (s : Seen). s.value) (map (λ (s : Signal). still s.initial) objects.signals) seen.ranges;
      queues = nothing_fits objects (driven_of objects);
    })
