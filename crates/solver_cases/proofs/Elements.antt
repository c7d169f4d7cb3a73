-- What the calls ask for of each design.
use Rattle.std.proofs.Common.{◌≡◌, ◌<◌, refl, ap, sym, ◌∙◌, subst, ℕ, Bool, true, List, [], ◌∷◌, IsTrue, nat_lt, arith}
use Rattle.std.specs.List.{All}
use Rattle.std.proofs.lemmas.List.Elements.{All-nil, All-from_recursion}
use Rattle.ams_value.specs.declared.op.BinaryOperator.TheVariants.{Equal}
use Rattle.ams_value.specs.declared.val.Val.{Val}
use Rattle.ams_value.specs.declared.val.Val.TheVariants as val
use Rattle.ams_value.specs.declared.value_type.ValueType.TheVariants.{Boolean, Bit}
use Rattle.flat_expr.specs.declared.expr.SignalName.TheVariants.{Signal}
use Rattle.flat_expr.specs.declared.expr.FlatExpr.TheOpen.{FlatExpr-F}
use Rattle.flat_expr.specs.declared.expr.FlatExpr.TheVariants as e
use Rattle.flat_expr.specs.declared.expr.FlatExpr.TheVariants.{rolls-Signal, rolls-Binary}
use Rattle.flat_expr.specs.declared.expr.FlatExpr.TheFolds.{fold-roll-FlatExpr}
use Rattle.flat_expr.specs.Expr.{reads_at, reads_in}
use Rattle.flat_design.specs.declared.objects.Objects.{Objects}
use Rattle.flat_design.specs.Order.{unknown_count}
use Rattle.flat_design.specs.Reads.{frame_of}
use Rattle.step_data.specs.declared.breaks.Element.{Element}
use Rattle.system_model.specs.System.{is_element}
use Rattle.equation_values.specs.Evaluable.{IsFrame}
use Rattle.solver_designs.specs.Designs.{charged_capacitor, polynomial_slope, is_high, chosen_level}

pub capacitor_frame : (objects : Objects) (frame : List Val) → objects ≡ charged_capacitor → frame ≡ [] → IsFrame objects frame
capacitor_frame objects frame is none = rw (is, none) refl

pub capacitor_count : (objects : Objects) → objects ≡ charged_capacitor → unknown_count objects ≡ 9
capacitor_count objects is = rw is refl

abbrev Elements : Objects → List Element → Type 0
Elements objects list = All (λ e. IsTrue (is_element objects e)) list

below : (n : ℕ) → n < 6 → IsTrue (nat_lt n 6)
below n h = search arith

pub one_element : (e : Element) → e.selector ≡ 4 → e.quantity < 6 → Elements charged_capacitor (e ∷ [])
one_element e selector quantity =
    All-from_recursion (λ x. IsTrue (is_element charged_capacitor x)) (e ∷ []) (rw selector (below e.quantity quantity), tt)

pub elements_of : (objects : Objects) (list : List Element) → objects ≡ charged_capacitor → Elements charged_capacitor list → Elements objects list
elements_of objects list is h = subst (λ o. Elements o list) (sym is) h

pub no_elements : (objects : Objects) (list : List Element) → list ≡ [] → Elements objects list
no_elements objects list none = subst (Elements objects) (sym none) (All-nil (λ x. IsTrue (is_element objects x)))

-- ---- the polynomial slope

pub slope_frame : (objects : Objects) (frame : List Val) → objects ≡ polynomial_slope → frame ≡ [] → IsFrame objects frame
slope_frame objects frame is none = rw (is, none) refl

-- ---- the chosen level

reads_signal : reads_in (Signal 0) (e.Signal (Signal 0) Bit) ≡ true
reads_signal = ap (reads_in (Signal 0)) (sym (rolls-Signal (Signal 0) Bit)) ∙ fold-roll-FlatExpr Bool (reads_at (Signal 0)) (FlatExpr-F.Signal (Signal 0) Bit)

reads_high : reads_in (Signal 0) is_high ≡ true
reads_high =
    ap (reads_in (Signal 0)) (sym (rolls-Binary Equal Boolean (e.Signal (Signal 0) Bit) (e.Literal (val.Bit true))))
    ∙ fold-roll-FlatExpr Bool (reads_at (Signal 0)) (FlatExpr-F.Binary Equal Boolean (e.Signal (Signal 0) Bit) (e.Literal (val.Bit true)))
    ∙ rw reads_signal refl

level_reads : frame_of chosen_level ≡ Signal 0 ∷ []
level_reads = rw reads_high refl

bit_frame : (b : Bool) → IsFrame chosen_level (val.Bit b ∷ [])
bit_frame b = rw level_reads refl

pub level_frame : (objects : Objects) (frame : List Val) (b : Bool) → objects ≡ chosen_level → frame ≡ val.Bit b ∷ [] → IsFrame objects frame
level_frame objects frame b is value = rw (is, value) (bit_frame b)
