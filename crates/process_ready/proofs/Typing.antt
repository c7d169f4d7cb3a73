-- A variable gets a value of its type.
use Rattle.std.proofs.Common.{◌≡◌, ap, sym, ◌∙◌, ℕ, zero, suc, List, [], ◌∷◌, map, Some, slice_set}
use Rattle.std.specs.Prelude.{IsTrue}
use Rattle.std.specs.List.{slice_get}
use Rattle.std.proofs.lemmas.List.Elements.{All-set}
use Rattle.ams_value.specs.declared.val.Val.{Val}
use Rattle.ams_value.specs.Types.{type_of, is_in_range}
use Rattle.flat_design.specs.declared.objects.Variable.{Variable}
use Rattle.flat_design.specs.declared.objects.Process.{Process}
use Rattle.design_meaning.specs.Typed.{IsOfType}
use Rattle.cycle_meaning.specs.World.{Context, Local}
use Rattle.design_rules.specs.Types.{sizes_of}
use Rattle.process_ready.specs.Ready.{IsReady}

types_stay : (vs : List Val) (xs : List Variable) (i : ℕ) (x : Variable) (v : Val) → map type_of vs ≡ map (λ (y : Variable). y.kind) xs → slice_get xs i ≡ Some x → type_of v ≡ x.kind →
    map type_of (slice_set vs i v) ≡ map (λ (y : Variable). y.kind) xs
types_stay [] xs i x v same is kind = same
types_stay (w ∷ vs) [] i x v same is kind = absurd cc
types_stay (w ∷ vs) (y ∷ xs) zero x v same is kind =
    let here : y ≡ x = cc in
    let more : map type_of vs ≡ map (λ (z : Variable). z.kind) xs = cc in
    let first : type_of v ≡ y.kind = kind ∙ ap (λ (z : Variable). z.kind) (sym here) in
    cc
types_stay (w ∷ vs) (y ∷ xs) (suc i) x v same is kind =
    let first : type_of w ≡ y.kind = cc in
    let more : map type_of vs ≡ map (λ (z : Variable). z.kind) xs = cc in
    let rest : map type_of (slice_set vs i v) ≡ map (λ (z : Variable). z.kind) xs = types_stay vs xs i x v more is kind in
    cc

pub ready_with : (here : Context) (p : Process) (l : Local) → IsReady here p l → (i : ℕ) (x : Variable) (v : Val) → slice_get p.variables i ≡ Some x → IsOfType (sizes_of here.objects) x.kind v →
    IsReady here p (record l { variables = slice_set l.variables i v })
ready_with here p l ready i x v is typed =
    record {
      process_is = ready.process_is;
      rules = ready.rules;
      reads = record {
        signals = ready.reads.signals;
        signals_range = ready.reads.signals_range;
        thresholds = ready.reads.thresholds;
        thresholds_kind = ready.reads.thresholds_kind;
        domain = ready.reads.domain;
        domain_range = ready.reads.domain_range;
        quantities = ready.reads.quantities;
        references = ready.reads.references;
        dots = ready.reads.dots;
        variables = types_stay l.variables p.variables i x v ready.reads.variables is typed.kind_is;
        variables_range = All-set (λ w. IsTrue (is_in_range (sizes_of here.objects) w)) l.variables i v typed.range ready.reads.variables_range;
        now = ready.reads.now;
      };
    }
