-- The words of the grammar with what they infer, so that each rule is covered by one term.
use Rattle.std.proofs.Common.{◌≡◌, ℕ, Bool, true, false, ◌&&◌, List, [], ◌∷◌, ◌++◌, Option, Some, None, refl, sym, ap, ◌∙◌, true≢false, append-nil}
use Rattle.ams_token.specs.declared.token.Token.{Token}
use Rattle.ams_tree.specs.Terminals.{of_class}
use Rattle.ams_tree.specs.Rule.{Rule}
use Rattle.ams_tree.specs.Rule as rule
use Rattle.parse_steps.specs.Reading.{Parser}
use Rattle.parse_steps.specs.Reading as reading
use Rattle.parse_steps.proofs.Sets.{apart, when, within, starts}
use Rattle.parse_steps.proofs.Covers.{Covers, Tells, both_covers, pure_covers, token_covers, choose_covers, repeat_covers, resized}
use Rattle.parse_steps.proofs.KindSets.{test_is, class_tells}

pub then_ : {A B : Type 0} {Over : Type 0} {e1 e2 : Bool} {f1 n1 f2 n2 : List ℕ} {L : Rule A} {M : A → Rule B} {P : Parser A} {Q : A → Parser B}
    → Covers Over e1 f1 n1 L P → ((a : A) → Covers Over e2 f2 n2 (M a) (Q a)) → apart n1 f2 ≡ true → Covers Over (e1 && e2) (f1 ++ when e1 f2) (n2 ++ when e2 n1) (rule.◌>>=◌ L M) (reading.◌>>=◌ P Q)
then_ h k sep = both_covers _ _ _ _ _ _ _ _ _ _ _ h k sep

pub ends : {A B : Type 0} {Over : Type 0} {e1 : Bool} {f1 n1 : List ℕ} {L : Rule A} {P : Parser A} (g : A → B)
    → Covers Over e1 f1 n1 L P → Covers Over (e1 && true) (f1 ++ when e1 []) n1 (rule.◌>>=◌ L (λ a. rule.pure (g a))) (reading.◌>>=◌ P (λ a. reading.pure (g a)))
ends {n1 = n1} g h = then_ h (λ a. pure_covers _ (g a)) (apart_nil n1)
  where
    apart_nil : (xs : List ℕ) → apart xs [] ≡ true
    apart_nil [] = refl
    apart_nil (x ∷ xs) = apart_nil xs

pub reads : {A : Type 0} (Over : Type 0) (cost : ℕ) (F : List ℕ) (f : Token → Option A) → Tells F f → Covers Over false F [] (rule.terminal true cost f) (reading.terminal true cost f)
reads Over cost F f tells = token_covers Over true true cost F f tells (λ ok e. absurd (true≢false e))

pub takes_ : (Over : Type 0) (cost c : ℕ) → Covers Over false (c ∷ []) [] (rule.terminal true cost (of_class c)) (reading.terminal true cost (of_class c))
takes_ Over cost c = reads Over cost (c ∷ []) (of_class c) (class_tells c)

pub or_ : {A X : Type 0} {Over : Type 0} {e2 : Bool} {f1 n1 f2 n2 : List ℕ} {L M : Rule A} {P Q : Parser A} (f : Token → Option X) → Tells f1 f
    → Covers Over false f1 n1 L P → Covers Over e2 f2 n2 M Q → apart f1 f2 ≡ true → Covers Over e2 (f1 ++ f2) ((n1 ++ n2) ++ when e2 f1) (rule.◌<|>◌ L M) (reading.choose (reading.at f) P Q)
or_ f tells h k sep = choose_covers _ _ _ _ _ _ _ _ _ _ _ (test_is _ f tells) h k sep

pub again : {A X Y : Type 0} {Over : Type 0} {f1 n1 : List ℕ} {L : Rule X} {P : Parser X} (f : Token → Option Y) → Tells f1 f → (g : A → X → A)
    → Covers Over false f1 n1 L P → apart n1 f1 ≡ true → (a : A) → Covers Over true f1 (f1 ++ n1) (rule.repeated g L a) (reading.repeated (reading.at f) g P a)
again f tells g h sep a = repeat_covers _ _ _ _ _ _ g (test_is _ f tells) h sep a

pub fits : {A : Type 0} {Over : Type 0} {empty : Bool} {first next : List ℕ} {L : Rule A} {P : Parser A} (first2 next2 : List ℕ) → Covers Over empty first next L P
    → within first first2 ≡ true → within first2 first ≡ true → within next next2 ≡ true → Covers Over empty first2 next2 L P
fits first2 next2 h = resized (λ o. o) first2 next2 h

-- ---- what may be left out

pub maybe : {A X : Type 0} {Over : Type 0} {f1 n1 : List ℕ} {L : Rule A} {P : Parser A} (f : Token → Option X) → Tells f1 f → Covers Over false f1 n1 L P
    → Covers Over true ((f1 ++ []) ++ []) ((n1 ++ []) ++ (f1 ++ [])) (rule.optional L) (reading.optional (reading.at f) P)
maybe {f1 = f1} f tells h = choose_covers _ _ _ _ _ _ _ _ _ _ _ (tests f tells) (ends (λ x. Some x) h) (pure_covers _ None) (apart_nil (f1 ++ []))
  where
    tests : {X : Type 0} (f : Token → Option X) → Tells f1 f → (ts : List Token) → reading.at f ts ≡ starts (f1 ++ []) ts
    tests f tells ts = test_is f1 f tells ts ∙ ap (λ F. starts F ts) (sym (append-nil f1))

    apart_nil : (xs : List ℕ) → apart xs [] ≡ true
    apart_nil [] = refl
    apart_nil (x ∷ xs) = apart_nil xs
