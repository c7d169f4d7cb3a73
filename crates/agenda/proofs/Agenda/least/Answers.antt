-- What stands first in the order is some source's time, and no time is less.
use Rattle.std.proofs.Common.{◌≡◌, ◌<◌, Some, true, length, get_or, sym, ◌∙◌, refl, arith}
use Rattle.std.specs.Prelude.{None}
use Rattle.std.proofs.lemmas.List.{get_or_default}
use Rattle.std.proofs.lemmas.Grind.{common_steps}
use Rattle.agenda.specs.Times.{stands}
use Rattle.agenda.proofs.Keys.{found, none_pending, least_is, pair_le, none_contained}
use Rattle.agenda.proofs.Earliest.{earliest_none, least_earliest}
use Rattle.agenda.proofs.Agenda.least.Goals as goal

pub index-requires : goal.index-requires
index-requires c =
    let times = c.self.inside.times.items in
    let k = c.in-Some.key.now in
    let there : stands times k.0 k.1 ≡ true = sym (c.self.invariant k.0 k.1) ∙ c.in-Some.ensures.member in
    let inside : k.1 < length times = (found times k.0 k.1 there).0 in
    grind (arith, common_steps, inside)

pub returns-in-Some-clause-earliest : goal.returns-in-Some-clause-earliest
returns-in-Some-clause-earliest c =
    let times = c.self.inside.times.items in
    let k = c.in-Some.key.now in
    let there : stands times k.0 k.1 ≡ true = sym (c.self.invariant k.0 k.1) ∙ c.in-Some.ensures.member in
    let f = found times k.0 k.1 there in
    let read : c.index.result.now ≡ Some k.0 = c.index.ensures ∙ get_or_default times k.1 c.index.result.now None f.0 ∙ f.1 in
    rw (read, ← c.self.view_is) (sym (least_earliest times k.0 (least_is times k.0 k.1 there (λ u r h. pair_le k.0 k.1 u r (c.in-Some.ensures.least (u, r) (c.self.invariant u r ∙ h))))))

pub returns-in-Some-clause-none : goal.returns-in-Some-clause-none
returns-in-Some-clause-none c =
    let times = c.self.inside.times.items in
    let k = c.in-Some.key.now in
    let there : stands times k.0 k.1 ≡ true = sym (c.self.invariant k.0 k.1) ∙ c.in-Some.ensures.member in
    let f = found times k.0 k.1 there in
    let read : c.index.result.now ≡ Some k.0 = c.index.ensures ∙ get_or_default times k.1 c.index.result.now None f.0 ∙ f.1 in
    rw (read, ← c.self.view_is) (λ none. absurd (cc), λ all. let nothing : get_or times k.1 None ≡ None = all k.1 None f.0 in cc)

pub returns-in-Some-clause-least : goal.returns-in-Some-clause-least
returns-in-Some-clause-least c =
    let times = c.self.inside.times.items in
    let k = c.in-Some.key.now in
    let there : stands times k.0 k.1 ≡ true = sym (c.self.invariant k.0 k.1) ∙ c.in-Some.ensures.member in
    let f = found times k.0 k.1 there in
    let read : c.index.result.now ≡ Some k.0 = c.index.ensures ∙ get_or_default times k.1 c.index.result.now None f.0 ∙ f.1 in
    rw (read, ← c.self.view_is) (least_is times k.0 k.1 there (λ u r h. pair_le k.0 k.1 u r (c.in-Some.ensures.least (u, r) (c.self.invariant u r ∙ h))))

pub returns-in-None-clause-earliest : goal.returns-in-None-clause-earliest
returns-in-None-clause-earliest c =
    let times = c.self.inside.times.items in
    let empty : 0 < length c.self.inside.order.keys → ⊥ = λ h. let e = c.in-None.ensures.variant.1 h in cc in
    rw (← c.self.view_is) (sym (earliest_none times (none_pending times (λ t s. sym (c.self.invariant t s) ∙ none_contained c.self.inside.order t s empty))))

pub returns-in-None-clause-none : goal.returns-in-None-clause-none
returns-in-None-clause-none c =
    let times = c.self.inside.times.items in
    let empty : 0 < length c.self.inside.order.keys → ⊥ = λ h. let e = c.in-None.ensures.variant.1 h in cc in
    rw (← c.self.view_is) (λ e. none_pending times (λ t s. sym (c.self.invariant t s) ∙ none_contained c.self.inside.order t s empty), λ all. refl)
