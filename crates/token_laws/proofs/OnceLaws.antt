-- A text has one list of tokens or one first fault.
use Rattle.std.proofs.Common.{◌≡◌, ◌≢◌, ℕ, ◌+◌, Bool, false, List, [], map, take, length, Option, Some, None, refl, sym, ap, subst, ◌∙◌}
use Rattle.ams_token.specs.declared.token.Place.{Place}
use Rattle.ams_token.specs.declared.tokens.Tokens.{Tokens}
use Rattle.ams_lexer.specs.declared.pieces.Cause.{Cause}
use Rattle.ams_lexer.specs.declared.pieces.Cause.TheVariants as cause
use Rattle.ams_lexer.specs.declared.fault.LexFault.{LexFault}
use Rattle.ams_lexer.specs.declared.fault.LexFault.TheVariants as fault
use Rattle.ams_lexer.specs.Texts.{Cut, IsCut, bytes_of, names_of, tokens_after, placed_of, place_after, first_place, HasTokens, StopsAt, IsFaultOf, fault_of}
use Rattle.token_laws.specs.Once.{SameTokens, LexesOnce}
use Rattle.token_laws.proofs.NameLaws.{Different, names-different}
use Rattle.token_laws.proofs.KindLaws.{one_list, some_same}

-- a text is cut in one way
abbrev pub OneCut : Type 0
OneCut =
    (cuts others : List Cut) (attribute : Bool) (text : List ℕ) (end other : Option (Cause × ℕ)) →
    IsCut attribute text cuts end → IsCut attribute text others other → (cuts ≡ others) × (end ≡ other)

same_tokens : OneCut → (text : List ℕ) (a b : Tokens) → HasTokens text a → HasTokens text b → SameTokens a b
same_tokens one text a b x y =
    let cuts : x.cuts ≡ y.cuts = (one x.cuts y.cuts false text None None x.is_cut y.is_cut).0 in
    let names : a.names ≡ b.names = x.names ∙ ap names_of cuts ∙ sym y.names in
    let different : Different a.names = subst Different (sym x.names) (names-different x.cuts) in
    let moved : map (placed_of a.names) b.list.items ≡ map (λ p. Some p) (tokens_after [] x.cuts) =
    ap (λ ns. map (placed_of ns) b.list.items) names ∙ y.list ∙ ap (λ cs. map (λ p. Some p) (tokens_after [] cs)) (sym cuts) in
    record {
      list = one_list a.names different a.list.items b.list.items (tokens_after [] x.cuts) x.list moved;
      names = names;
      end = x.end ∙ sym y.end;
    }

-- a fault by its cause and its place
record Parts (text : List ℕ) (f : LexFault) : Type 0 where
  cause : Cause
  place : Place
  fault_is : f ≡ fault_of cause place
  stops : StopsAt text cause place

parts : (text : List ℕ) (f : LexFault) → f ≢ fault.Memory → IsFaultOf text f → Parts text f
parts text (fault.BadCharacter p) n s = record { cause = cause.BadCharacter; place = p; fault_is = refl; stops = s }
parts text (fault.BadLiteral p) n s = record { cause = cause.BadLiteral; place = p; fault_is = refl; stops = s }
parts text (fault.UnclosedString p) n s = record { cause = cause.UnclosedString; place = p; fault_is = refl; stops = s }
parts text (fault.NotAscii p) n s = record { cause = cause.NotAscii; place = p; fault_is = refl; stops = s }
parts text fault.Memory n s = absurd (n refl)

pair_parts : (p q : Cause × ℕ) → Some p ≡ Some q → (p.0 ≡ q.0) × (p.1 ≡ q.1)
pair_parts p q h = (ap (λ (x : Cause × ℕ). x.0) (some_same p q h), ap (λ (x : Cause × ℕ). x.1) (some_same p q h))

no_end : (e : Option (Cause × ℕ)) (p : Cause × ℕ) → e ≡ Some p → e ≡ None → ⊥
no_end e p h k = cc

same_fault : OneCut → (text : List ℕ) (f g : LexFault) → f ≢ fault.Memory → g ≢ fault.Memory → IsFaultOf text f → IsFaultOf text g → f ≡ g
same_fault one text f g nf ng x y =
    let a = parts text f nf x in
    let b = parts text g ng y in
    let both = one a.stops.cuts b.stops.cuts false text (Some (a.cause, a.stops.offset)) (Some (b.cause, b.stops.offset)) a.stops.is_cut b.stops.is_cut in
    let ends = pair_parts (a.cause, a.stops.offset) (b.cause, b.stops.offset) both.1 in
    let causes : a.cause ≡ b.cause = ends.0 in
    let offsets : a.stops.offset ≡ b.stops.offset = ends.1 in
    let places : a.place ≡ b.place =
    a.stops.is_place ∙ ap (λ cs. place_after first_place (take (length (bytes_of cs) + a.stops.offset) text)) both.0
    ∙ ap (λ o. place_after first_place (take (length (bytes_of b.stops.cuts) + o) text)) offsets ∙ sym b.stops.is_place in
    a.fault_is ∙ ap (λ c. fault_of c a.place) causes ∙ ap (fault_of b.cause) places ∙ sym b.fault_is

no_both : OneCut → (text : List ℕ) (a : Tokens) (f : LexFault) → f ≢ fault.Memory → HasTokens text a → IsFaultOf text f → ⊥
no_both one text a f n x y =
    let b = parts text f n y in
    no_end None (b.cause, b.stops.offset) (one x.cuts b.stops.cuts false text None (Some (b.cause, b.stops.offset)) x.is_cut b.stops.is_cut).1 refl

pub lexes_once : OneCut → LexesOnce
lexes_once one = record { tokens = same_tokens one; fault = same_fault one; either = no_both one }
