-- Formals of one more entity.
use Rattle.std.proofs.Common.{◌≡◌, ℕ, nat_eq, Bool, true, false, cond, List, Option, Some, None, IfSome, Bor, refl, sym, ap, ◌∙◌, subst, arith}
use Rattle.std.proofs.lemmas.Bool.Decides.{nat_tests}
use Rattle.std.specs.Option.{option_copied}
use Rattle.ams_tree.specs.declared.design.DesignUnit.{DesignUnit}
use Rattle.ams_tree.specs.declared.design.Entity.{Entity}
use Rattle.unit_meaning.specs.Associations.{entity_in}
use Rattle.formal_index.specs.declared.index.EntityFormals.{EntityFormals}
use Rattle.formal_index.specs.Formals.{IsOf, AreFormals}

same_is : (x y : ℕ) → nat_eq x y ≡ true → x ≡ y
same_is x y e = grind (arith, nat_tests)

pub one_more : (texts : List (List ℕ)) (units : List DesignUnit) (find longer : ℕ → Option EntityFormals) (k : ℕ) (e : Entity) (v : EntityFormals)
    → entity_in units k ≡ Some e → IsOf texts (Some e) v → ((x : ℕ) → longer x ≡ cond (nat_eq k x) (Some v) (find x))
    → AreFormals texts units find → AreFormals texts units longer
one_more texts units find longer k e v here is put h x f g = go (nat_eq k x) refl (sym (put x) ∙ g)
  where
    go : (b : Bool) → nat_eq k x ≡ b → cond b (Some v) (find x) ≡ Some f → IsOf texts (entity_in units x) f
    go true s g =
        let same : v ≡ f = cc in
        let there : entity_in units x ≡ Some e = ap (entity_in units) (sym (same_is k x s)) ∙ here in
        subst (λ w. IsOf texts (entity_in units x) w) same (subst (λ o. IsOf texts o v) (sym there) is)
    go false s g = h x f g

-- what a look-up has answered
pub found : (texts : List (List ℕ)) (units : List DesignUnit) (find : ℕ → Option EntityFormals) (x : ℕ) (o : Option (Bor EntityFormals))
    → option_copied o ≡ find x → AreFormals texts units find → IfSome o (λ f. IsOf texts (entity_in units x) f.now)
found texts units find x (Some f) e h = h x f.now (sym e)
found texts units find x None e h = tt
