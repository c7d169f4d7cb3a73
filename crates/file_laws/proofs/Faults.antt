-- Of a list of tokens one thing can be told.
use Rattle.std.proofs.Common.{◌≡◌, ◌≤◌, ◌<◌, ℕ, suc, nat_lt, Bool, true, false, List, length, take, drop, ◌++◌, refl, sym, ap, ◌∙◌, subst, arith}
use Rattle.std.proofs.lemmas.Bool.Decides.{nat_tests}
use Rattle.std.proofs.lemmas.List.{take-append-drop, take-take, take_all}
use Rattle.ams_token.specs.declared.token.Token.{Token}
use Rattle.ams_tree.specs.declared.design.DesignFile.{DesignFile}
use Rattle.ams_tree.specs.Designs.{design_file}
use Rattle.ams_tree.specs.Answer.{BeginsWithin, Longest, IsTooDeep}
use Rattle.parse_steps.specs.declared.fault.ParseFault.{ParseFault}
use Rattle.parse_steps.specs.declared.fault.ParseFault.TheVariants.{Memory, Syntax, TooDeep}
use Rattle.parse_steps.specs.Reply.{most_levels, most_operators}
use Rattle.parse_steps.proofs.Answering.{front_begins_within, one_tree}
use Rattle.ams_parser.specs.Whole.{IsRefused}
use Rattle.ams_parser.proofs.Called.{answering}
use Rattle.file_laws.specs.Once.{IsFile, HasFault, ReadOnce}

-- what a front of the tokens begins, a shorter one begins
shorter : (tokens : List Token) (p q : ℕ) → q ≤ p → BeginsWithin design_file most_levels most_operators (take p tokens) → BeginsWithin design_file most_levels most_operators (take q tokens)
shorter tokens p q le b =
    front_begins_within answering most_levels most_operators (take q tokens) (drop q (take p tokens))
    (subst (BeginsWithin design_file most_levels most_operators) (sym (ap (λ ts. ts ++ drop q (take p tokens)) (front_of tokens p q le) ∙ take-append-drop q (take p tokens))) b)
  where
    front_of : (tokens : List Token) (p q : ℕ) → q ≤ p → take q tokens ≡ take q (take p tokens)
    front_of tokens p q le = grind (take-take, le, arith)

-- a whole file begins one
whole_begins : (tokens : List Token) (x : DesignFile) → IsFile tokens x → BeginsWithin design_file most_levels most_operators tokens
whole_begins tokens x s = (s.0, s.1, (answering.covers 0 0 most_operators most_levels).whole x tokens s.0 s.2)

no_more : (tokens : List Token) (p q : ℕ) → Longest design_file tokens p → Longest design_file tokens q → p < q → ⊥
no_more tokens p q a b lt = a.ends q lt b.fits b.begins

-- of two numbers neither of which is less, each is the other
module _ (p q : ℕ) (not_less : p < q → ⊥) (not_more : q < p → ⊥) where
  split_by : (a b : Bool) → nat_lt p q ≡ a → nat_lt q p ≡ b → p ≡ q
  split_by true b e f = absurd (not_less (grind (arith, nat_tests)))
  split_by false true e f = absurd (not_more (grind (arith, nat_tests)))
  split_by false false e f = grind (arith, nat_tests)

  same : p ≡ q
  same = split_by (nat_lt p q) (nat_lt q p) refl refl

-- the place of a fault of syntax stands behind no token past a limit
module _ (tokens : List Token) where
  deep_is_before : (p q : ℕ) → IsRefused design_file most_levels most_operators tokens p → IsTooDeep design_file most_levels most_operators tokens q → ⊥
  deep_is_before p q a b = go (nat_lt p (suc q)) refl
    where
      go : (o : Bool) → nat_lt p (suc q) ≡ o → ⊥
      go true e = a.longest.ends (suc q) (grind (arith, nat_tests)) (omega (arith, b.fits)) b.begins
      go false e = b.beyond (shorter tokens p (suc q) (grind (arith, nat_tests)) a.within)

  one_is_deep : (p q : ℕ) → IsTooDeep design_file most_levels most_operators tokens p → IsTooDeep design_file most_levels most_operators tokens q → p < q → ⊥
  one_is_deep p q a b lt = a.beyond (shorter tokens q (suc p) (omega (arith, lt)) b.within)

  one_fault : (f g : ParseFault) → HasFault tokens f → HasFault tokens g → f ≡ g
  one_fault Memory g a b = absurd (a.told refl)
  one_fault f Memory a b = absurd (b.told refl)
  one_fault (Syntax p) (Syntax q) a b =
      ap Syntax (same p q (no_more tokens p q a.found.longest b.found.longest) (no_more tokens q p b.found.longest a.found.longest))
  one_fault (Syntax p) (TooDeep q) a b = absurd (deep_is_before p q a.found b.found)
  one_fault (TooDeep p) (Syntax q) a b = absurd (deep_is_before q p b.found a.found)
  one_fault (TooDeep p) (TooDeep q) a b = ap TooDeep (same p q (one_is_deep p q a.found b.found) (one_is_deep q p b.found a.found))

  -- what a file spells has no fault
  no_fault : (x : DesignFile) (f : ParseFault) → IsFile tokens x → HasFault tokens f → ⊥
  no_fault x Memory s a = a.told refl
  no_fault x (Syntax p) s a = a.found.unspelled x (most_operators, most_levels, s.0, s.2)
  no_fault x (TooDeep p) s a =
      a.found.beyond (shorter tokens (length tokens) (suc p) (omega (arith, a.found.fits))
      (subst (BeginsWithin design_file most_levels most_operators) (sym (all_of tokens)) (whole_begins tokens x s)))
    where
      all_of : (tokens : List Token) → take (length tokens) tokens ≡ tokens
      all_of tokens = grind (take_all, arith)

  one_file : (x y : DesignFile) → IsFile tokens x → IsFile tokens y → x ≡ y
  one_file x y s t = one_tree answering x y tokens (most_operators, most_levels, s.0, s.2) (most_operators, most_levels, t.0, t.2)

pub read_once : ReadOnce
read_once = record { file = one_file; fault = one_fault; either = no_fault }
