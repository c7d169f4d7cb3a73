-- What each instruction gives makes up the value and the slope of the expression, by induction on it.
use Rattle.std.proofs.Common.{◌≡◌, ◌<◌, ◌≤◌, ◌+◌, ◌-◌, ℕ, zero, suc, ℤ, pos, negsuc, Bool, true, false, Option, Some, None, List, [], ◌∷◌, ◌++◌, length, get_or, Result, Ok, Err, refl, sym, ◌∙◌, ap, subst, arith, append_assoc}
use Rattle.std.specs.Prelude.{nat_lt, if◌then◌else◌}
use Rattle.std.proofs.lemmas.Bool.Decides.{nat_tests}
use Rattle.std.proofs.lemmas.List.{length-append}
use Rattle.std.proofs.Math.Seq.{get_or-append_seam}
use Rattle.fix_core.specs.Passes.{and_then, ◌>>=◌}
use Rattle.ams_value.specs.declared.val.Val.{Val}
use Rattle.ams_value.specs.declared.val.Val.TheVariants as val
use Rattle.ams_value.specs.declared.op.UnaryOperator.{UnaryOperator}
use Rattle.ams_value.specs.declared.op.BinaryOperator.{BinaryOperator}
use Rattle.ams_value.specs.declared.op.BinaryOperator.TheVariants as binary
use Rattle.ams_value.specs.declared.value_type.ValueType.{ValueType}
use Rattle.flat_expr.specs.declared.expr.Function.{Function}
use Rattle.flat_expr.specs.declared.expr.Function.TheVariants as function
use Rattle.flat_expr.specs.declared.expr.Unknown.{Unknown}
use Rattle.flat_expr.specs.declared.expr.FlatExpr.{FlatExpr}
use Rattle.flat_expr.specs.declared.expr.FlatExpr.TheViews.{roll-FlatExpr}
use Rattle.flat_expr.specs.declared.expr.FlatExpr.TheOpen.{FlatExpr-F}
use Rattle.flat_expr.specs.declared.expr.FlatExpr.TheFolds.{map-FlatExpr, fold-roll-FlatExpr, ind-FlatExpr}
use Rattle.design_meaning.specs.declared.fault.EvalFault.{EvalFault}
use Rattle.design_meaning.specs.Readings.{Readings}
use Rattle.design_meaning.specs.Value.{Meaning, meaning_at, meaning_of, value_of, slope_of, number_of, value_at, slope_at, power_slope}
use Rattle.tape_code.specs.declared.instruction.RealFunction.{RealFunction}
use Rattle.tape_code.specs.declared.instruction.RealOperator.{RealOperator}
use Rattle.tape_code.specs.declared.instruction.Instruction.{Instruction}
use Rattle.tape_code.specs.declared.instruction.Instruction.TheVariants as i
use Rattle.tape_code.specs.Code.{Compiled, compiled_at, compiled, code_of, unary_instruction, binary_instruction, power_instruction, is_power, conversion, real_function_of, no_integer}
use Rattle.tape_code.specs.Steps.{earlier, number_step, slope_step, function_number, HasNumbers, HasSlopes}
use Rattle.tape_code.specs.Laws.{LastIsTheValue, LastIsTheSlope}
use Rattle.tape_code.proofs.Values.{unary_gives, unary_rises, call_gives, call_rises, value_by, binary_gives, binary_rises, power_gives}

-- ---- places

pub earlier_is : (numbers : List ℤ) (k skipped p : ℕ) → p + 1 + skipped ≡ k → earlier numbers k skipped ≡ get_or numbers p (pos 0)
earlier_is numbers k skipped p h =
    let test : nat_lt skipped k ≡ true = grind (arith, nat_tests) in
    let place : k - 1 - skipped ≡ p = omega arith in
    rw (test, place) refl

-- code that stands between two parts
abbrev Stands : List Instruction → List Instruction → List Instruction → List Instruction → Type 0
Stands code pre own post = code ≡ pre ++ own ++ post

last_stands : (code pre a post : List Instruction) (x : Instruction) (p : ℕ) → Stands code pre (a ++ x ∷ []) post → p + 1 ≡ length pre + length (a ++ x ∷ []) → get_or code p i.Other ≡ x
last_stands code pre a post x p is at =
    let same : code ≡ (pre ++ a) ++ x ∷ post = is ∙ simp append_assoc in
    let place : p ≡ length (pre ++ a) = simp length-append (omega (arith, simp length-append at at)) in
    rw (same, place) (get_or-append_seam (pre ++ a) x post i.Other)

first_stands : (code pre a b post : List Instruction) → Stands code pre (a ++ b) post → Stands code pre a (b ++ post)
first_stands code pre a b post is = is ∙ simp append_assoc

second_stands : (code pre a b post : List Instruction) → Stands code pre (a ++ b) post → Stands code (pre ++ a) b post
second_stands code pre a b post is = is ∙ simp append_assoc

-- ---- what is shown of a part, by what is made of it

pub record Agrees (r : Readings) (u : Unknown) (c : Compiled) (m : Meaning) : Type 0 where
  pub some : 0 < length c.code
  pub integer : (n : ℤ) → c.integer ≡ Some n → m.value r ≡ Ok (val.Int n)
  pub value : (code pre post : List Instruction) (numbers : List ℤ) (n p : ℕ) → Stands code pre c.code post → p + 1 ≡ length pre + length c.code → p < n
      → HasNumbers r code n numbers → m.value r ≡ Ok (val.Real (get_or numbers p (pos 0)))
  pub slope : (code pre post : List Instruction) (numbers slopes : List ℤ) (n p : ℕ) → Stands code pre c.code post → p + 1 ≡ length pre + length c.code → p < n
      → HasNumbers r code n numbers → HasSlopes u code numbers n slopes → m.slope u r ≡ Ok (get_or slopes p (pos 0))

-- where an instruction gives no number there is nothing to show
pub other_fails : (r : Readings) (numbers : List ℤ) (k : ℕ) (x : Instruction) (z : ℤ) → x ≡ i.Other → number_step r x numbers k ≡ Ok z → ⊥
other_fails r numbers k x z is h = absurd (let e : number_step r i.Other numbers k ≡ Ok z = subst (λ (y : Instruction). number_step r y numbers k ≡ Ok z) is h in cc)

-- the number of the last instruction, by that instruction
last_number : (r : Readings) (code pre a post : List Instruction) (x : Instruction) (numbers : List ℤ) (n p : ℕ) → Stands code pre (a ++ x ∷ []) post
    → p + 1 ≡ length pre + length (a ++ x ∷ []) → p < n → HasNumbers r code n numbers → number_step r x numbers p ≡ Ok (get_or numbers p (pos 0))
last_number r code pre a post x numbers n p is at within has =
    subst (λ (y : Instruction). number_step r y numbers p ≡ Ok (get_or numbers p (pos 0))) (last_stands code pre a post x p is at) (has p within)

last_slope : (u : Unknown) (code pre a post : List Instruction) (x : Instruction) (numbers slopes : List ℤ) (n p : ℕ) → Stands code pre (a ++ x ∷ []) post
    → p + 1 ≡ length pre + length (a ++ x ∷ []) → p < n → HasSlopes u code numbers n slopes → slope_step u x numbers slopes p ≡ Ok (get_or slopes p (pos 0))
last_slope u code pre a post x numbers slopes n p is at within has =
    subst (λ (y : Instruction). slope_step u y numbers slopes p ≡ Ok (get_or slopes p (pos 0))) (last_stands code pre a post x p is at) (has p within)

-- ---- one instruction alone

pub leaf : (r : Readings) (u : Unknown) (x : Instruction) (whole : Option ℤ) (m : Meaning)
    → ((n : ℤ) → whole ≡ Some n → m.value r ≡ Ok (val.Int n))
    → ((numbers : List ℤ) (k : ℕ) (z : ℤ) → number_step r x numbers k ≡ Ok z → m.value r ≡ Ok (val.Real z))
    → ((numbers slopes : List ℤ) (k : ℕ) (v z : ℤ) → number_step r x numbers k ≡ Ok v → slope_step u x numbers slopes k ≡ Ok z → m.slope u r ≡ Ok z)
    → Agrees r u (record { code = x ∷ []; integer = whole }) m
leaf r u x whole m integer value slope =
    record {
      some = omega arith;
      integer = integer;
      value = λ code pre post numbers n p is at within has. value numbers p (get_or numbers p (pos 0)) (last_number r code pre [] post x numbers n p is at within has);
      slope = λ code pre post numbers slopes n p is at within has rises.
          slope numbers slopes p (get_or numbers p (pos 0)) (get_or slopes p (pos 0)) (last_number r code pre [] post x numbers n p is at within has) (last_slope u code pre [] post x numbers slopes n p is at within rises);
    }

pub no_number : {A : Type 0} (n : ℤ) → ◌≡◌ {A = Option ℤ} None (Some n) → A
no_number n h = absurd (cc)

-- ---- an instruction behind its one operand

pub one_operand : (r : Readings) (u : Unknown) (x : Instruction) (c : Compiled) (m whole : Meaning) → Agrees r u c m
    → ((numbers : List ℤ) (k q : ℕ) (v : ℤ) → q + 1 ≡ k → m.value r ≡ Ok (val.Real (get_or numbers q (pos 0))) → number_step r x numbers k ≡ Ok v → whole.value r ≡ Ok (val.Real v))
    → ((numbers slopes : List ℤ) (k q : ℕ) (v z : ℤ) → q + 1 ≡ k → m.value r ≡ Ok (val.Real (get_or numbers q (pos 0))) → m.slope u r ≡ Ok (get_or slopes q (pos 0))
    → v ≡ get_or numbers k (pos 0) → number_step r x numbers k ≡ Ok v → slope_step u x numbers slopes k ≡ Ok z → whole.slope u r ≡ Ok z)
    → Agrees r u (no_integer (c.code ++ x ∷ [])) whole
one_operand r u x c m whole part value slope =
    record {
      some = simp length-append (omega arith);
      integer = λ n h. no_number n h;
      value = λ code pre post numbers n p is at within has.
          let size : length (c.code ++ x ∷ []) ≡ length c.code + 1 = simp length-append refl in
          let q = length pre + length c.code - 1 in
          let behind : q + 1 ≡ p = let s = part.some in omega arith in
          value numbers p q (get_or numbers p (pos 0)) behind
          (part.value code pre (x ∷ [] ++ post) numbers n q (first_stands code pre c.code (x ∷ []) post is) (let s = part.some in omega arith) (omega arith) has)
          (last_number r code pre c.code post x numbers n p is at within has);
      slope = λ code pre post numbers slopes n p is at within has rises.
          let size : length (c.code ++ x ∷ []) ≡ length c.code + 1 = simp length-append refl in
          let q = length pre + length c.code - 1 in
          let behind : q + 1 ≡ p = let s = part.some in omega arith in
          let stands = first_stands code pre c.code (x ∷ []) post is in
          slope numbers slopes p q (get_or numbers p (pos 0)) (get_or slopes p (pos 0)) behind
          (part.value code pre (x ∷ [] ++ post) numbers n q stands (let s = part.some in omega arith) (omega arith) has)
          (part.slope code pre (x ∷ [] ++ post) numbers slopes n q stands (let s = part.some in omega arith) (omega arith) has rises)
          refl
          (last_number r code pre c.code post x numbers n p is at within has) (last_slope u code pre c.code post x numbers slopes n p is at within rises);
    }

-- ---- an instruction behind its two operands

pub two_operands : (r : Readings) (u : Unknown) (x : Instruction) (c d : Compiled) (m n whole : Meaning) → Agrees r u c m → Agrees r u d n
    → ((numbers : List ℤ) (k p q : ℕ) (v : ℤ) → p + 1 + length d.code ≡ k → q + 1 ≡ k → m.value r ≡ Ok (val.Real (get_or numbers p (pos 0))) → n.value r ≡ Ok (val.Real (get_or numbers q (pos 0)))
    → number_step r x numbers k ≡ Ok v → whole.value r ≡ Ok (val.Real v))
    → ((numbers slopes : List ℤ) (k p q : ℕ) (v z : ℤ) → p + 1 + length d.code ≡ k → q + 1 ≡ k → m.value r ≡ Ok (val.Real (get_or numbers p (pos 0))) → n.value r ≡ Ok (val.Real (get_or numbers q (pos 0)))
    → m.slope u r ≡ Ok (get_or slopes p (pos 0)) → n.slope u r ≡ Ok (get_or slopes q (pos 0))
    → v ≡ get_or numbers k (pos 0) → number_step r x numbers k ≡ Ok v → slope_step u x numbers slopes k ≡ Ok z → whole.slope u r ≡ Ok z)
    → Agrees r u (no_integer (c.code ++ d.code ++ x ∷ [])) whole
two_operands r u x c d m n whole left right value slope =
    let size : length (c.code ++ d.code ++ x ∷ []) ≡ length c.code + length d.code + 1 = simp length-append (omega arith) in
    record {
      some = omega arith;
      integer = λ j h. no_number j h;
      value = λ code pre post numbers count k is at within has.
          let p = length pre + length c.code - 1 in
          let q = length pre + length c.code + length d.code - 1 in
          let first : p + 1 ≡ length pre + length c.code = let s = left.some in omega arith in
          let second : q + 1 ≡ length (pre ++ c.code) + length d.code = simp length-append (let s = right.some in omega arith) in
          let last : k + 1 ≡ length (pre ++ c.code ++ d.code) + 1 = simp length-append (omega arith) in
          let own : Stands code (pre ++ c.code ++ d.code) ([] ++ x ∷ []) post = is ∙ simp append_assoc in
          let all : Stands code pre (c.code ++ (d.code ++ x ∷ [])) post = is ∙ simp append_assoc in
          value numbers k p q (get_or numbers k (pos 0)) (omega arith) (let s = right.some in omega arith)
          (left.value code pre ((d.code ++ x ∷ []) ++ post) numbers count p (first_stands code pre c.code (d.code ++ x ∷ []) post all) first (omega arith) has)
          (right.value code (pre ++ c.code) (x ∷ [] ++ post) numbers count q (first_stands code (pre ++ c.code) d.code (x ∷ []) post (second_stands code pre c.code (d.code ++ x ∷ []) post all)) second (let s = right.some in omega arith) has)
          (last_number r code (pre ++ c.code ++ d.code) [] post x numbers count k own last within has);
      slope = λ code pre post numbers slopes count k is at within has rises.
          let p = length pre + length c.code - 1 in
          let q = length pre + length c.code + length d.code - 1 in
          let first : p + 1 ≡ length pre + length c.code = let s = left.some in omega arith in
          let second : q + 1 ≡ length (pre ++ c.code) + length d.code = simp length-append (let s = right.some in omega arith) in
          let last : k + 1 ≡ length (pre ++ c.code ++ d.code) + 1 = simp length-append (omega arith) in
          let own : Stands code (pre ++ c.code ++ d.code) ([] ++ x ∷ []) post = is ∙ simp append_assoc in
          let all : Stands code pre (c.code ++ (d.code ++ x ∷ [])) post = is ∙ simp append_assoc in
          let on_left = first_stands code pre c.code (d.code ++ x ∷ []) post all in
          let on_right = first_stands code (pre ++ c.code) d.code (x ∷ []) post (second_stands code pre c.code (d.code ++ x ∷ []) post all) in
          slope numbers slopes k p q (get_or numbers k (pos 0)) (get_or slopes k (pos 0)) (omega arith) (let s = right.some in omega arith)
          (left.value code pre ((d.code ++ x ∷ []) ++ post) numbers count p on_left first (omega arith) has)
          (right.value code (pre ++ c.code) (x ∷ [] ++ post) numbers count q on_right second (let s = right.some in omega arith) has)
          (left.slope code pre ((d.code ++ x ∷ []) ++ post) numbers slopes count p on_left first (omega arith) has rises)
          (right.slope code (pre ++ c.code) (x ∷ [] ++ post) numbers slopes count q on_right second (let s = right.some in omega arith) has rises)
          refl
          (last_number r code (pre ++ c.code ++ d.code) [] post x numbers count k own last within has)
          (last_slope u code (pre ++ c.code ++ d.code) [] post x numbers slopes count k own last within rises);
    }
