-- The words of the grammar with what they infer, so that each rule is sound by one term.
use Rattle.std.proofs.Common.{true, false, Option, Some, None, refl, arith}
use Rattle.ams_token.specs.declared.token.Token.{Token}
use Rattle.ams_tree.specs.Rule.{Rule}
use Rattle.ams_tree.specs.Rule as rule
use Rattle.parse_steps.specs.Reading.{Parser}
use Rattle.parse_steps.specs.Reading as reading
use Rattle.parse_steps.proofs.Sound.{Sound, pure_sound, token_sound, choose_sound, both_sound, repeat_sound}

pub then_ : {A B : Type 0} {Over : Type 0} {L : Rule A} {M : A → Rule B} {P : Parser A} {Q : A → Parser B} → Sound Over L P → ((a : A) → Sound Over (M a) (Q a)) → Sound Over (rule.◌>>=◌ L M) (reading.◌>>=◌ P Q)
then_ h k = both_sound _ _ _ _ _ h k

pub ends : {A B : Type 0} {Over : Type 0} {L : Rule A} {P : Parser A} (g : A → B) → Sound Over L P → Sound Over (rule.◌>>=◌ L (λ a. rule.pure (g a))) (reading.◌>>=◌ P (λ a. reading.pure (g a)))
ends g h = then_ h (λ a. pure_sound _ (g a))

pub free : {A : Type 0} (Over : Type 0) (f : Token → Option A) → Sound Over (rule.one f) (reading.one f)
free Over f = token_sound Over true true 0 f (λ e. refl) (λ o. refl) (omega arith)

pub op_ : {A : Type 0} (Over : Type 0) (f : Token → Option A) → Sound Over (rule.counted f) (reading.counted f)
op_ Over f = token_sound Over true true 1 f (λ e. refl) (λ o. refl) (omega arith)

pub or_ : {A X : Type 0} {Over : Type 0} {L M : Rule A} {P Q : Parser A} (f : Token → Option X) → Sound Over L P → Sound Over M Q → Sound Over (rule.◌<|>◌ L M) (reading.choose (reading.at f) P Q)
or_ f h k = choose_sound _ _ _ _ _ _ h k

pub again : {A X Y : Type 0} {Over : Type 0} {L : Rule X} {P : Parser X} (f : Token → Option Y) (g : A → X → A) → Sound Over L P → (a : A) → Sound Over (rule.repeated g L a) (reading.repeated (reading.at f) g P a)
again f g h a = repeat_sound _ _ _ _ g h a

pub maybe : {A X : Type 0} {Over : Type 0} {L : Rule A} {P : Parser A} (f : Token → Option X) → Sound Over L P → Sound Over (rule.optional L) (reading.optional (reading.at f) P)
maybe f h = or_ f (ends (λ x. Some x) h) (pure_sound _ None)

pub said : {A X : Type 0} {Over : Type 0} {L : Rule A} {P : Parser A} (f : Token → Option X) → Sound Over L P → Sound Over (rule.present L) (reading.present (reading.at f) P)
said f h = or_ f (then_ h (λ x. pure_sound _ true)) (pure_sound _ false)
