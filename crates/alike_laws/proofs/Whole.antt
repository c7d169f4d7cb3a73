-- Expressions whose values are asked, and the laws as a whole.
use Rattle.std.proofs.Common.{Option, Some, None, IsSome}
use Rattle.elab_meaning.specs.declared.typed.Asked.{Asked}
use Rattle.elab_meaning.specs.declared.typed.Typed.{Typed}
use Rattle.elab_meaning.specs.Parts.{part_of}
use Rattle.elab_meaning.specs.Expressions.{expression, asked, static, static_in}
use Rattle.elab_meaning.specs.Subtypes.{declaring}
use Rattle.alike_laws.specs.Alike.{IsShown, ExpressionsFollow, StaticsFollow, StaticPartsFollow, ReadingsFollow, ScopesStayAlike}
use Rattle.alike_laws.proofs.Notes.{reads_then}
use Rattle.alike_laws.proofs.Scopes.{named_alike, inside_alike, scopes_more}
use Rattle.alike_laws.proofs.Start.{start_alike}
use Rattle.alike_laws.proofs.Attributes.{asked_passes, told_asked}
use Rattle.alike_laws.proofs.Reading.{expression_follows}

expressions : ExpressionsFollow
expressions natures a b h texts x k c i = expression_follows natures texts a b h x k c i

statics : StaticsFollow
statics natures a b h texts x k c i =
    let f = expression texts a x (static_in k) c in
    let g = expression texts b x (static_in k) i in
    reads_then (Option Typed) (Option Typed) IsSome c f i g (Option Asked) (Option Asked) IsSome (asked f.1 f.0) (asked g.1 g.0) (expressions natures a b h texts x (static_in k) c i)
    (asked_passes f.1 f.0) (λ d. told_asked g.1 g.0)

pub shown_part : (A : Type 0) (o : Option A) → IsSome o → IsShown (part_of o)
shown_part A (Some a) h = tt
shown_part A None h = absurd (cc)

parts : StaticPartsFollow
parts natures a b h texts x c i =
    let r = statics natures a b h texts x declaring c i in
    record { notes = r.notes; right = λ d. shown_part Asked (static texts a x declaring c).1 (r.right d) }

pub readings_follow : ReadingsFollow
readings_follow = record { expressions = expressions; statics = statics; parts = parts }

pub scopes_stay_alike : ScopesStayAlike
scopes_stay_alike =
    record {
      named = named_alike;
      inner = inside_alike;
      more = λ natures n a b h some. scopes_more natures n a b h some;
      start = λ natures texts some outside. start_alike natures some outside texts;
    }
