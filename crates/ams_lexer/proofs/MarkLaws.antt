-- The mark that is read is the longest at the front, and each mark is read.
use Rattle.std.proofs.Common.{◌≡◌, ℕ, suc, ◌+◌, ◌≤◌, Bool, true, false, cond, ◌&&◌, eqb, List, [], ◌∷◌, ◌++◌, length, Option, Some, None, refl, sym, ap, subst, ◌∙◌, arith, inl, inr, ◌⊎◌, lit≤}
use Rattle.std.proofs.lemmas.Bool.{and_parts, eqb-true}
use Rattle.std.proofs.lemmas.List.{length-append}
use Rattle.ams_token.specs.declared.mark.Mark.{Mark}
use Rattle.ams_token.specs.declared.mark.Mark.TheVariants as m
use Rattle.ams_token.specs.Spelling.{mark_text}
use Rattle.ams_lexer.specs.Marks.{IsMark, pair_mark, single_mark, of_length, or_else, mark_at}

-- ---- what the tables give

chosen : {A : Type 0} (t : Bool) (x y z : A) → cond t x y ≡ z → ((t ≡ true) × (x ≡ z)) ⊎ ((t ≡ false) × (y ≡ z))
chosen true x y z h = inl (refl, h)
chosen false x y z h = inr (refl, h)

some_is : (x y : Mark) → Some x ≡ Some y → x ≡ y
some_is x y h = cc

pair_text : (b c x y : ℕ) (found mark : Mark) → (eqb b x && eqb c y) ≡ true → mark_text found ≡ x ∷ y ∷ [] → Some found ≡ Some mark → mark_text mark ≡ b ∷ c ∷ []
pair_text b c x y found mark h text is =
    let parts = and_parts (eqb b x) (eqb c y) h in
    ap mark_text (sym (some_is found mark is)) ∙ text ∙ rw (eqb-true b x parts.0, eqb-true c y parts.1) refl

single_text : (b x : ℕ) (found mark : Mark) → eqb b x ≡ true → mark_text found ≡ x ∷ [] → Some found ≡ Some mark → mark_text mark ≡ b ∷ []
single_text b x found mark h text is = ap mark_text (sym (some_is found mark is)) ∙ text ∙ rw (eqb-true b x h) refl

pair_text_8 : (b c : ℕ) (mark : Mark) → None ≡ Some mark → mark_text mark ≡ b ∷ c ∷ []
pair_text_8 b c mark h = absurd cc

pair_text_7 : (b c : ℕ) (mark : Mark) → cond (eqb b 61 && eqb c 61) (Some m.DoubleEqual) (None) ≡ Some mark → mark_text mark ≡ b ∷ c ∷ []
pair_text_7 b c mark h =
    elim (chosen (eqb b 61 && eqb c 61) (Some m.DoubleEqual) _ (Some mark) h) [ inl e ↦ pair_text b c 61 61 m.DoubleEqual mark e.0 refl e.1 | inr e ↦ pair_text_8 b c mark e.1 ]

pair_text_6 : (b c : ℕ) (mark : Mark) → cond (eqb b 60 && eqb c 62) (Some m.Box) (cond (eqb b 61 && eqb c 61) (Some m.DoubleEqual) (None)) ≡ Some mark → mark_text mark ≡ b ∷ c ∷ []
pair_text_6 b c mark h =
    elim (chosen (eqb b 60 && eqb c 62) (Some m.Box) _ (Some mark) h) [ inl e ↦ pair_text b c 60 62 m.Box mark e.0 refl e.1 | inr e ↦ pair_text_7 b c mark e.1 ]

pair_text_5 : (b c : ℕ) (mark : Mark) → cond (eqb b 60 && eqb c 61) (Some m.LessEqual) (cond (eqb b 60 && eqb c 62) (Some m.Box) (cond (eqb b 61 && eqb c 61) (Some m.DoubleEqual) (None))) ≡ Some mark → mark_text mark ≡ b ∷ c ∷ []
pair_text_5 b c mark h =
    elim (chosen (eqb b 60 && eqb c 61) (Some m.LessEqual) _ (Some mark) h) [ inl e ↦ pair_text b c 60 61 m.LessEqual mark e.0 refl e.1 | inr e ↦ pair_text_6 b c mark e.1 ]

pair_text_4 : (b c : ℕ) (mark : Mark) → cond (eqb b 62 && eqb c 61) (Some m.GreaterEqual) (cond (eqb b 60 && eqb c 61) (Some m.LessEqual) (cond (eqb b 60 && eqb c 62) (Some m.Box) (cond (eqb b 61 && eqb c 61) (Some m.DoubleEqual) (None)))) ≡ Some mark → mark_text mark ≡ b ∷ c ∷ []
pair_text_4 b c mark h =
    elim (chosen (eqb b 62 && eqb c 61) (Some m.GreaterEqual) _ (Some mark) h) [ inl e ↦ pair_text b c 62 61 m.GreaterEqual mark e.0 refl e.1 | inr e ↦ pair_text_5 b c mark e.1 ]

pair_text_3 : (b c : ℕ) (mark : Mark) → cond (eqb b 47 && eqb c 61) (Some m.NotEqual) (cond (eqb b 62 && eqb c 61) (Some m.GreaterEqual) (cond (eqb b 60 && eqb c 61) (Some m.LessEqual) (cond (eqb b 60 && eqb c 62) (Some m.Box) (cond (eqb b 61 && eqb c 61) (Some m.DoubleEqual) (None))))) ≡ Some mark → mark_text mark ≡ b ∷ c ∷ []
pair_text_3 b c mark h =
    elim (chosen (eqb b 47 && eqb c 61) (Some m.NotEqual) _ (Some mark) h) [ inl e ↦ pair_text b c 47 61 m.NotEqual mark e.0 refl e.1 | inr e ↦ pair_text_4 b c mark e.1 ]

pair_text_2 : (b c : ℕ) (mark : Mark) → cond (eqb b 58 && eqb c 61) (Some m.Assign) (cond (eqb b 47 && eqb c 61) (Some m.NotEqual) (cond (eqb b 62 && eqb c 61) (Some m.GreaterEqual) (cond (eqb b 60 && eqb c 61) (Some m.LessEqual) (cond (eqb b 60 && eqb c 62) (Some m.Box) (cond (eqb b 61 && eqb c 61) (Some m.DoubleEqual) (None)))))) ≡ Some mark → mark_text mark ≡ b ∷ c ∷ []
pair_text_2 b c mark h =
    elim (chosen (eqb b 58 && eqb c 61) (Some m.Assign) _ (Some mark) h) [ inl e ↦ pair_text b c 58 61 m.Assign mark e.0 refl e.1 | inr e ↦ pair_text_3 b c mark e.1 ]

pair_text_1 : (b c : ℕ) (mark : Mark) → cond (eqb b 42 && eqb c 42) (Some m.DoubleStar) (cond (eqb b 58 && eqb c 61) (Some m.Assign) (cond (eqb b 47 && eqb c 61) (Some m.NotEqual) (cond (eqb b 62 && eqb c 61) (Some m.GreaterEqual) (cond (eqb b 60 && eqb c 61) (Some m.LessEqual) (cond (eqb b 60 && eqb c 62) (Some m.Box) (cond (eqb b 61 && eqb c 61) (Some m.DoubleEqual) (None))))))) ≡ Some mark → mark_text mark ≡ b ∷ c ∷ []
pair_text_1 b c mark h =
    elim (chosen (eqb b 42 && eqb c 42) (Some m.DoubleStar) _ (Some mark) h) [ inl e ↦ pair_text b c 42 42 m.DoubleStar mark e.0 refl e.1 | inr e ↦ pair_text_2 b c mark e.1 ]

pair_text_0 : (b c : ℕ) (mark : Mark) → cond (eqb b 61 && eqb c 62) (Some m.Arrow) (cond (eqb b 42 && eqb c 42) (Some m.DoubleStar) (cond (eqb b 58 && eqb c 61) (Some m.Assign) (cond (eqb b 47 && eqb c 61) (Some m.NotEqual) (cond (eqb b 62 && eqb c 61) (Some m.GreaterEqual) (cond (eqb b 60 && eqb c 61) (Some m.LessEqual) (cond (eqb b 60 && eqb c 62) (Some m.Box) (cond (eqb b 61 && eqb c 61) (Some m.DoubleEqual) (None)))))))) ≡ Some mark → mark_text mark ≡ b ∷ c ∷ []
pair_text_0 b c mark h =
    elim (chosen (eqb b 61 && eqb c 62) (Some m.Arrow) _ (Some mark) h) [ inl e ↦ pair_text b c 61 62 m.Arrow mark e.0 refl e.1 | inr e ↦ pair_text_1 b c mark e.1 ]

single_text_16 : (b : ℕ) (mark : Mark) → None ≡ Some mark → mark_text mark ≡ b ∷ []
single_text_16 b mark h = absurd cc

single_text_15 : (b : ℕ) (mark : Mark) → cond (eqb b 124) (Some m.Bar) (None) ≡ Some mark → mark_text mark ≡ b ∷ []
single_text_15 b mark h =
    elim (chosen (eqb b 124) (Some m.Bar) _ (Some mark) h) [ inl e ↦ single_text b 124 m.Bar mark e.0 refl e.1 | inr e ↦ single_text_16 b mark e.1 ]

single_text_14 : (b : ℕ) (mark : Mark) → cond (eqb b 62) (Some m.Greater) (cond (eqb b 124) (Some m.Bar) (None)) ≡ Some mark → mark_text mark ≡ b ∷ []
single_text_14 b mark h =
    elim (chosen (eqb b 62) (Some m.Greater) _ (Some mark) h) [ inl e ↦ single_text b 62 m.Greater mark e.0 refl e.1 | inr e ↦ single_text_15 b mark e.1 ]

single_text_13 : (b : ℕ) (mark : Mark) → cond (eqb b 61) (Some m.Equal) (cond (eqb b 62) (Some m.Greater) (cond (eqb b 124) (Some m.Bar) (None))) ≡ Some mark → mark_text mark ≡ b ∷ []
single_text_13 b mark h =
    elim (chosen (eqb b 61) (Some m.Equal) _ (Some mark) h) [ inl e ↦ single_text b 61 m.Equal mark e.0 refl e.1 | inr e ↦ single_text_14 b mark e.1 ]

single_text_12 : (b : ℕ) (mark : Mark) → cond (eqb b 60) (Some m.Less) (cond (eqb b 61) (Some m.Equal) (cond (eqb b 62) (Some m.Greater) (cond (eqb b 124) (Some m.Bar) (None)))) ≡ Some mark → mark_text mark ≡ b ∷ []
single_text_12 b mark h =
    elim (chosen (eqb b 60) (Some m.Less) _ (Some mark) h) [ inl e ↦ single_text b 60 m.Less mark e.0 refl e.1 | inr e ↦ single_text_13 b mark e.1 ]

single_text_11 : (b : ℕ) (mark : Mark) → cond (eqb b 59) (Some m.Semicolon) (cond (eqb b 60) (Some m.Less) (cond (eqb b 61) (Some m.Equal) (cond (eqb b 62) (Some m.Greater) (cond (eqb b 124) (Some m.Bar) (None))))) ≡ Some mark → mark_text mark ≡ b ∷ []
single_text_11 b mark h =
    elim (chosen (eqb b 59) (Some m.Semicolon) _ (Some mark) h) [ inl e ↦ single_text b 59 m.Semicolon mark e.0 refl e.1 | inr e ↦ single_text_12 b mark e.1 ]

single_text_10 : (b : ℕ) (mark : Mark) → cond (eqb b 58) (Some m.Colon) (cond (eqb b 59) (Some m.Semicolon) (cond (eqb b 60) (Some m.Less) (cond (eqb b 61) (Some m.Equal) (cond (eqb b 62) (Some m.Greater) (cond (eqb b 124) (Some m.Bar) (None)))))) ≡ Some mark → mark_text mark ≡ b ∷ []
single_text_10 b mark h =
    elim (chosen (eqb b 58) (Some m.Colon) _ (Some mark) h) [ inl e ↦ single_text b 58 m.Colon mark e.0 refl e.1 | inr e ↦ single_text_11 b mark e.1 ]

single_text_9 : (b : ℕ) (mark : Mark) → cond (eqb b 47) (Some m.Slash) (cond (eqb b 58) (Some m.Colon) (cond (eqb b 59) (Some m.Semicolon) (cond (eqb b 60) (Some m.Less) (cond (eqb b 61) (Some m.Equal) (cond (eqb b 62) (Some m.Greater) (cond (eqb b 124) (Some m.Bar) (None))))))) ≡ Some mark → mark_text mark ≡ b ∷ []
single_text_9 b mark h =
    elim (chosen (eqb b 47) (Some m.Slash) _ (Some mark) h) [ inl e ↦ single_text b 47 m.Slash mark e.0 refl e.1 | inr e ↦ single_text_10 b mark e.1 ]

single_text_8 : (b : ℕ) (mark : Mark) → cond (eqb b 46) (Some m.Point) (cond (eqb b 47) (Some m.Slash) (cond (eqb b 58) (Some m.Colon) (cond (eqb b 59) (Some m.Semicolon) (cond (eqb b 60) (Some m.Less) (cond (eqb b 61) (Some m.Equal) (cond (eqb b 62) (Some m.Greater) (cond (eqb b 124) (Some m.Bar) (None)))))))) ≡ Some mark → mark_text mark ≡ b ∷ []
single_text_8 b mark h =
    elim (chosen (eqb b 46) (Some m.Point) _ (Some mark) h) [ inl e ↦ single_text b 46 m.Point mark e.0 refl e.1 | inr e ↦ single_text_9 b mark e.1 ]

single_text_7 : (b : ℕ) (mark : Mark) → cond (eqb b 45) (Some m.Minus) (cond (eqb b 46) (Some m.Point) (cond (eqb b 47) (Some m.Slash) (cond (eqb b 58) (Some m.Colon) (cond (eqb b 59) (Some m.Semicolon) (cond (eqb b 60) (Some m.Less) (cond (eqb b 61) (Some m.Equal) (cond (eqb b 62) (Some m.Greater) (cond (eqb b 124) (Some m.Bar) (None))))))))) ≡ Some mark → mark_text mark ≡ b ∷ []
single_text_7 b mark h =
    elim (chosen (eqb b 45) (Some m.Minus) _ (Some mark) h) [ inl e ↦ single_text b 45 m.Minus mark e.0 refl e.1 | inr e ↦ single_text_8 b mark e.1 ]

single_text_6 : (b : ℕ) (mark : Mark) → cond (eqb b 44) (Some m.Comma) (cond (eqb b 45) (Some m.Minus) (cond (eqb b 46) (Some m.Point) (cond (eqb b 47) (Some m.Slash) (cond (eqb b 58) (Some m.Colon) (cond (eqb b 59) (Some m.Semicolon) (cond (eqb b 60) (Some m.Less) (cond (eqb b 61) (Some m.Equal) (cond (eqb b 62) (Some m.Greater) (cond (eqb b 124) (Some m.Bar) (None)))))))))) ≡ Some mark → mark_text mark ≡ b ∷ []
single_text_6 b mark h =
    elim (chosen (eqb b 44) (Some m.Comma) _ (Some mark) h) [ inl e ↦ single_text b 44 m.Comma mark e.0 refl e.1 | inr e ↦ single_text_7 b mark e.1 ]

single_text_5 : (b : ℕ) (mark : Mark) → cond (eqb b 43) (Some m.Plus) (cond (eqb b 44) (Some m.Comma) (cond (eqb b 45) (Some m.Minus) (cond (eqb b 46) (Some m.Point) (cond (eqb b 47) (Some m.Slash) (cond (eqb b 58) (Some m.Colon) (cond (eqb b 59) (Some m.Semicolon) (cond (eqb b 60) (Some m.Less) (cond (eqb b 61) (Some m.Equal) (cond (eqb b 62) (Some m.Greater) (cond (eqb b 124) (Some m.Bar) (None))))))))))) ≡ Some mark → mark_text mark ≡ b ∷ []
single_text_5 b mark h =
    elim (chosen (eqb b 43) (Some m.Plus) _ (Some mark) h) [ inl e ↦ single_text b 43 m.Plus mark e.0 refl e.1 | inr e ↦ single_text_6 b mark e.1 ]

single_text_4 : (b : ℕ) (mark : Mark) → cond (eqb b 42) (Some m.Star) (cond (eqb b 43) (Some m.Plus) (cond (eqb b 44) (Some m.Comma) (cond (eqb b 45) (Some m.Minus) (cond (eqb b 46) (Some m.Point) (cond (eqb b 47) (Some m.Slash) (cond (eqb b 58) (Some m.Colon) (cond (eqb b 59) (Some m.Semicolon) (cond (eqb b 60) (Some m.Less) (cond (eqb b 61) (Some m.Equal) (cond (eqb b 62) (Some m.Greater) (cond (eqb b 124) (Some m.Bar) (None)))))))))))) ≡ Some mark → mark_text mark ≡ b ∷ []
single_text_4 b mark h =
    elim (chosen (eqb b 42) (Some m.Star) _ (Some mark) h) [ inl e ↦ single_text b 42 m.Star mark e.0 refl e.1 | inr e ↦ single_text_5 b mark e.1 ]

single_text_3 : (b : ℕ) (mark : Mark) → cond (eqb b 41) (Some m.RightParen) (cond (eqb b 42) (Some m.Star) (cond (eqb b 43) (Some m.Plus) (cond (eqb b 44) (Some m.Comma) (cond (eqb b 45) (Some m.Minus) (cond (eqb b 46) (Some m.Point) (cond (eqb b 47) (Some m.Slash) (cond (eqb b 58) (Some m.Colon) (cond (eqb b 59) (Some m.Semicolon) (cond (eqb b 60) (Some m.Less) (cond (eqb b 61) (Some m.Equal) (cond (eqb b 62) (Some m.Greater) (cond (eqb b 124) (Some m.Bar) (None))))))))))))) ≡ Some mark → mark_text mark ≡ b ∷ []
single_text_3 b mark h =
    elim (chosen (eqb b 41) (Some m.RightParen) _ (Some mark) h) [ inl e ↦ single_text b 41 m.RightParen mark e.0 refl e.1 | inr e ↦ single_text_4 b mark e.1 ]

single_text_2 : (b : ℕ) (mark : Mark) → cond (eqb b 40) (Some m.LeftParen) (cond (eqb b 41) (Some m.RightParen) (cond (eqb b 42) (Some m.Star) (cond (eqb b 43) (Some m.Plus) (cond (eqb b 44) (Some m.Comma) (cond (eqb b 45) (Some m.Minus) (cond (eqb b 46) (Some m.Point) (cond (eqb b 47) (Some m.Slash) (cond (eqb b 58) (Some m.Colon) (cond (eqb b 59) (Some m.Semicolon) (cond (eqb b 60) (Some m.Less) (cond (eqb b 61) (Some m.Equal) (cond (eqb b 62) (Some m.Greater) (cond (eqb b 124) (Some m.Bar) (None)))))))))))))) ≡ Some mark → mark_text mark ≡ b ∷ []
single_text_2 b mark h =
    elim (chosen (eqb b 40) (Some m.LeftParen) _ (Some mark) h) [ inl e ↦ single_text b 40 m.LeftParen mark e.0 refl e.1 | inr e ↦ single_text_3 b mark e.1 ]

single_text_1 : (b : ℕ) (mark : Mark) → cond (eqb b 39) (Some m.Tick) (cond (eqb b 40) (Some m.LeftParen) (cond (eqb b 41) (Some m.RightParen) (cond (eqb b 42) (Some m.Star) (cond (eqb b 43) (Some m.Plus) (cond (eqb b 44) (Some m.Comma) (cond (eqb b 45) (Some m.Minus) (cond (eqb b 46) (Some m.Point) (cond (eqb b 47) (Some m.Slash) (cond (eqb b 58) (Some m.Colon) (cond (eqb b 59) (Some m.Semicolon) (cond (eqb b 60) (Some m.Less) (cond (eqb b 61) (Some m.Equal) (cond (eqb b 62) (Some m.Greater) (cond (eqb b 124) (Some m.Bar) (None))))))))))))))) ≡ Some mark → mark_text mark ≡ b ∷ []
single_text_1 b mark h =
    elim (chosen (eqb b 39) (Some m.Tick) _ (Some mark) h) [ inl e ↦ single_text b 39 m.Tick mark e.0 refl e.1 | inr e ↦ single_text_2 b mark e.1 ]

single_text_0 : (b : ℕ) (mark : Mark) → cond (eqb b 38) (Some m.Ampersand) (cond (eqb b 39) (Some m.Tick) (cond (eqb b 40) (Some m.LeftParen) (cond (eqb b 41) (Some m.RightParen) (cond (eqb b 42) (Some m.Star) (cond (eqb b 43) (Some m.Plus) (cond (eqb b 44) (Some m.Comma) (cond (eqb b 45) (Some m.Minus) (cond (eqb b 46) (Some m.Point) (cond (eqb b 47) (Some m.Slash) (cond (eqb b 58) (Some m.Colon) (cond (eqb b 59) (Some m.Semicolon) (cond (eqb b 60) (Some m.Less) (cond (eqb b 61) (Some m.Equal) (cond (eqb b 62) (Some m.Greater) (cond (eqb b 124) (Some m.Bar) (None)))))))))))))))) ≡ Some mark → mark_text mark ≡ b ∷ []
single_text_0 b mark h =
    elim (chosen (eqb b 38) (Some m.Ampersand) _ (Some mark) h) [ inl e ↦ single_text b 38 m.Ampersand mark e.0 refl e.1 | inr e ↦ single_text_1 b mark e.1 ]

-- ---- what the tables hold

short : (mark : Mark) → length (mark_text mark) ≤ 2
short m.Ampersand = lit≤ tt
short m.Tick = lit≤ tt
short m.LeftParen = lit≤ tt
short m.RightParen = lit≤ tt
short m.Star = lit≤ tt
short m.DoubleStar = lit≤ tt
short m.Plus = lit≤ tt
short m.Comma = lit≤ tt
short m.Minus = lit≤ tt
short m.Point = lit≤ tt
short m.Slash = lit≤ tt
short m.NotEqual = lit≤ tt
short m.Colon = lit≤ tt
short m.Assign = lit≤ tt
short m.Semicolon = lit≤ tt
short m.Less = lit≤ tt
short m.LessEqual = lit≤ tt
short m.Box = lit≤ tt
short m.Equal = lit≤ tt
short m.DoubleEqual = lit≤ tt
short m.Arrow = lit≤ tt
short m.Greater = lit≤ tt
short m.GreaterEqual = lit≤ tt
short m.Bar = lit≤ tt

two_is : (b c x y : ℕ) → (x ∷ y ∷ []) ≡ (b ∷ c ∷ []) → (b ≡ x) × (c ≡ y)
two_is b c x y h = (cc, cc)

one_is : (b x : ℕ) → (x ∷ []) ≡ (b ∷ []) → b ≡ x
one_is b x h = cc

one_not_two : (b c x : ℕ) → (x ∷ []) ≡ (b ∷ c ∷ []) → ⊥
one_not_two b c x h = cc

two_not_one : (b x y : ℕ) → (x ∷ y ∷ []) ≡ (b ∷ []) → ⊥
two_not_one b x y h = cc

pair_again : (b c : ℕ) (mark : Mark) → mark_text mark ≡ b ∷ c ∷ [] → pair_mark b c ≡ Some mark
pair_again b c m.Ampersand h = absurd (one_not_two b c 38 h)
pair_again b c m.Tick h = absurd (one_not_two b c 39 h)
pair_again b c m.LeftParen h = absurd (one_not_two b c 40 h)
pair_again b c m.RightParen h = absurd (one_not_two b c 41 h)
pair_again b c m.Star h = absurd (one_not_two b c 42 h)
pair_again b c m.DoubleStar h = let e = two_is b c 42 42 h in rw (e.0, e.1) refl
pair_again b c m.Plus h = absurd (one_not_two b c 43 h)
pair_again b c m.Comma h = absurd (one_not_two b c 44 h)
pair_again b c m.Minus h = absurd (one_not_two b c 45 h)
pair_again b c m.Point h = absurd (one_not_two b c 46 h)
pair_again b c m.Slash h = absurd (one_not_two b c 47 h)
pair_again b c m.NotEqual h = let e = two_is b c 47 61 h in rw (e.0, e.1) refl
pair_again b c m.Colon h = absurd (one_not_two b c 58 h)
pair_again b c m.Assign h = let e = two_is b c 58 61 h in rw (e.0, e.1) refl
pair_again b c m.Semicolon h = absurd (one_not_two b c 59 h)
pair_again b c m.Less h = absurd (one_not_two b c 60 h)
pair_again b c m.LessEqual h = let e = two_is b c 60 61 h in rw (e.0, e.1) refl
pair_again b c m.Box h = let e = two_is b c 60 62 h in rw (e.0, e.1) refl
pair_again b c m.Equal h = absurd (one_not_two b c 61 h)
pair_again b c m.DoubleEqual h = let e = two_is b c 61 61 h in rw (e.0, e.1) refl
pair_again b c m.Arrow h = let e = two_is b c 61 62 h in rw (e.0, e.1) refl
pair_again b c m.Greater h = absurd (one_not_two b c 62 h)
pair_again b c m.GreaterEqual h = let e = two_is b c 62 61 h in rw (e.0, e.1) refl
pair_again b c m.Bar h = absurd (one_not_two b c 124 h)

single_again : (b : ℕ) (mark : Mark) → mark_text mark ≡ b ∷ [] → single_mark b ≡ Some mark
single_again b m.Ampersand h = rw (one_is b 38 h) refl
single_again b m.Tick h = rw (one_is b 39 h) refl
single_again b m.LeftParen h = rw (one_is b 40 h) refl
single_again b m.RightParen h = rw (one_is b 41 h) refl
single_again b m.Star h = rw (one_is b 42 h) refl
single_again b m.DoubleStar h = absurd (two_not_one b 42 42 h)
single_again b m.Plus h = rw (one_is b 43 h) refl
single_again b m.Comma h = rw (one_is b 44 h) refl
single_again b m.Minus h = rw (one_is b 45 h) refl
single_again b m.Point h = rw (one_is b 46 h) refl
single_again b m.Slash h = rw (one_is b 47 h) refl
single_again b m.NotEqual h = absurd (two_not_one b 47 61 h)
single_again b m.Colon h = rw (one_is b 58 h) refl
single_again b m.Assign h = absurd (two_not_one b 58 61 h)
single_again b m.Semicolon h = rw (one_is b 59 h) refl
single_again b m.Less h = rw (one_is b 60 h) refl
single_again b m.LessEqual h = absurd (two_not_one b 60 61 h)
single_again b m.Box h = absurd (two_not_one b 60 62 h)
single_again b m.Equal h = rw (one_is b 61 h) refl
single_again b m.DoubleEqual h = absurd (two_not_one b 61 61 h)
single_again b m.Arrow h = absurd (two_not_one b 61 62 h)
single_again b m.Greater h = rw (one_is b 62 h) refl
single_again b m.GreaterEqual h = absurd (two_not_one b 62 61 h)
single_again b m.Bar h = rw (one_is b 124 h) refl

pub some_text : (mark : Mark) → 1 ≤ length (mark_text mark)
some_text m.Ampersand = lit≤ tt
some_text m.Tick = lit≤ tt
some_text m.LeftParen = lit≤ tt
some_text m.RightParen = lit≤ tt
some_text m.Star = lit≤ tt
some_text m.DoubleStar = lit≤ tt
some_text m.Plus = lit≤ tt
some_text m.Comma = lit≤ tt
some_text m.Minus = lit≤ tt
some_text m.Point = lit≤ tt
some_text m.Slash = lit≤ tt
some_text m.NotEqual = lit≤ tt
some_text m.Colon = lit≤ tt
some_text m.Assign = lit≤ tt
some_text m.Semicolon = lit≤ tt
some_text m.Less = lit≤ tt
some_text m.LessEqual = lit≤ tt
some_text m.Box = lit≤ tt
some_text m.Equal = lit≤ tt
some_text m.DoubleEqual = lit≤ tt
some_text m.Arrow = lit≤ tt
some_text m.Greater = lit≤ tt
some_text m.GreaterEqual = lit≤ tt
some_text m.Bar = lit≤ tt

-- ---- reading

-- a mark at the front, and how many bytes it takes
pub record FindsMark (bs : List ℕ) (found : Mark × ℕ) : Type 0 where
  pub w : List ℕ
  pub rest : List ℕ
  pub text : bs ≡ w ++ rest
  pub size : length w ≡ found.1
  pub mark : IsMark found.0 w rest

of_length-some : (n : ℕ) (o : Option Mark) (found : Mark × ℕ) → of_length n o ≡ Some found → (o ≡ Some found.0) × (n ≡ found.1)
of_length-some n None found h = absurd cc
of_length-some n (Some mark) found h = let e : (mark, n) ≡ found = cc in (ap (λ (f : Mark × ℕ). Some f.0) e, ap (λ (f : Mark × ℕ). f.1) e)

fits_one : (b : ℕ) (t after : List ℕ) → (b ∷ []) ≡ t ++ after → length t ≤ 1
fits_one b t after h = let l : 1 ≡ length t + length after = ap length h ∙ length-append t after in omega arith

fits_before : (b c : ℕ) (bs t after : List ℕ) → (b ∷ c ∷ bs) ≡ t ++ after → length t ≤ 2 → (t ≡ b ∷ c ∷ [] → ⊥) → length t ≤ 1
fits_before b c bs [] after h two other = omega arith
fits_before b c bs (x ∷ []) after h two other = omega arith
fits_before b c bs (x ∷ y ∷ []) after h two other = absurd (other (let first : x ≡ b = cc in let second : y ≡ c = cc in rw (first, second) refl))
fits_before b c bs (x ∷ y ∷ z ∷ t) after h two other = absurd (omega arith)

finds_pair : (b c : ℕ) (bs : List ℕ) (mark : Mark) → pair_mark b c ≡ Some mark → FindsMark (b ∷ c ∷ bs) (mark, 2)
finds_pair b c bs mark h = record {
  w = b ∷ c ∷ [];
  rest = bs;
  text = refl;
  size = refl;
  mark = record { text = sym (pair_text_0 b c mark h); longest = λ other after e. short other };
}

abbrev mark_pair : Mark → ℕ → Mark × ℕ
mark_pair mark n = (mark, n)

sized : (found : Mark × ℕ) (n : ℕ) → n ≡ found.1 → (found.0, n) ≡ found
sized found n e = ap (mark_pair found.0) e

finds_single : (b : ℕ) (bs : List ℕ) (mark : Mark) → single_mark b ≡ Some mark → ((other : Mark) (after : List ℕ) → (b ∷ bs) ≡ mark_text other ++ after → length (mark_text other) ≤ 1) → FindsMark (b ∷ bs) (mark, 1)
finds_single b bs mark h longest = record {
  w = b ∷ [];
  rest = bs;
  text = refl;
  size = refl;
  mark = record { text = sym (single_text_0 b mark h); longest = longest };
}

finds_in_two : (b c : ℕ) (bs : List ℕ) (found : Mark × ℕ) (pair : Option Mark) → pair_mark b c ≡ pair → or_else (of_length 2 pair) (of_length 1 (single_mark b)) ≡ Some found → FindsMark (b ∷ c ∷ bs) found
finds_in_two b c bs found (Some mark) is h =
    let e = of_length-some 2 (Some mark) found h in
    let same : (mark, 2) ≡ found = let first : mark ≡ found.0 = some_is mark found.0 e.0 in let second = e.1 in cc in
    subst (λ (f : Mark × ℕ). FindsMark (b ∷ c ∷ bs) f) same (finds_pair b c bs mark is)
finds_in_two b c bs found None is h =
    let e = of_length-some 1 (single_mark b) found h in
    let none : (other : Mark) → mark_text other ≡ b ∷ c ∷ [] → ⊥ = λ other t. let k : None ≡ Some other = sym is ∙ pair_again b c other t in cc in
    let longest : (other : Mark) (after : List ℕ) → (b ∷ c ∷ bs) ≡ mark_text other ++ after → length (mark_text other) ≤ 1 =
    λ other after t. fits_before b c bs (mark_text other) after t (short other) (none other)
    in
    let made = finds_single b (c ∷ bs) found.0 e.0 longest in
    let same = sized found 1 e.1 in
    subst (λ (f : Mark × ℕ). FindsMark (b ∷ c ∷ bs) f) same made

pub finds_mark : (bs : List ℕ) (found : Mark × ℕ) → mark_at bs ≡ Some found → FindsMark bs found
unfolding mark_at
finds_mark [] found h = absurd cc
finds_mark (b ∷ []) found h =
    let e = of_length-some 1 (single_mark b) found h in
    let made = finds_single b [] found.0 e.0 (λ other after t. fits_one b (mark_text other) after t) in
    let same = sized found 1 e.1 in
    subst (λ (f : Mark × ℕ). FindsMark (b ∷ []) f) same made
finds_mark (b ∷ c ∷ bs) found h = finds_in_two b c bs found (pair_mark b c) refl h

no_pair : (b c : ℕ) (bs : List ℕ) (pair : Option Mark) → pair_mark b c ≡ pair → ((other : Mark) (after : List ℕ) → (b ∷ c ∷ bs) ≡ mark_text other ++ after → length (mark_text other) ≤ 1) → pair ≡ None
no_pair b c bs None is longest = refl
no_pair b c bs (Some other) is longest =
    let t = pair_text_0 b c other is in
    let two : length (mark_text other) ≡ 2 = ap length t in
    let le = longest other bs (ap (λ (s : List ℕ). s ++ bs) (sym t)) in
    absurd (omega (arith, two, le))

again_single : (b : ℕ) (mark : Mark) (rest : List ℕ) → mark_text mark ≡ b ∷ [] → IsMark mark (b ∷ []) rest → mark_at (b ∷ rest) ≡ Some (mark, 1)
unfolding mark_at
again_single b mark [] t is = rw (single_again b mark t) refl
again_single b mark (c ∷ rest) t is =
    let none = no_pair b c rest (pair_mark b c) refl is.longest in
    rw (none, single_again b mark t) refl

again_text : (mark : Mark) (t w rest : List ℕ) → mark_text mark ≡ t → w ≡ t → IsMark mark w rest → mark_at (w ++ rest) ≡ Some (mark, length w)
unfolding mark_at
again_text mark [] w rest text is found = absurd (let n = some_text mark in let l : length (mark_text mark) ≡ 0 = ap length text in omega arith)
again_text mark (b ∷ []) w rest text is found =
    subst (λ (v : List ℕ). mark_at (v ++ rest) ≡ Some (mark, length v)) (sym is) (again_single b mark rest text (subst (λ (v : List ℕ). IsMark mark v rest) is found))
again_text mark (b ∷ c ∷ []) w rest text is found =
    subst (λ (v : List ℕ). mark_at (v ++ rest) ≡ Some (mark, length v)) (sym is) (rw (pair_again b c mark text) refl)
again_text mark (b ∷ c ∷ d ∷ t) w rest text is found = absurd (let n = short mark in let l : length (mark_text mark) ≡ suc (suc (suc (length t))) = ap length text in omega arith)

pub mark_again : (mark : Mark) (w rest : List ℕ) → IsMark mark w rest → mark_at (w ++ rest) ≡ Some (mark, length w)
mark_again mark w rest is = again_text mark (mark_text mark) w rest refl is.text is
