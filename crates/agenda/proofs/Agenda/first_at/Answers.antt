-- What stands first in the order is the first source of the least time.
use Rattle.std.proofs.Common.{◌≡◌, ◌<◌, ◌≤◌, ℕ, true, length, sym, subst, ◌∙◌, arith}
use Rattle.std.specs.List.{All}
use Rattle.agenda.specs.Times.{stands}
use Rattle.agenda.proofs.Keys.{pair_le, source_le, none_contained, first_found, first_missing, from_time}
use Rattle.agenda.proofs.Agenda.first_at.Goals as goal

pub returns-then-time-get : goal.returns-then-time-get
returns-then-time-get c =
    let times = c.self.inside.times.items in
    let k = c.in-Some.key.now in
    let same : k.0 ≡ c.args.t = c.if-time-get.true ∙ c.get.ensures.value in
    let there : stands times k.0 k.1 ≡ true = sym (c.self.invariant k.0 k.1) ∙ c.in-Some.ensures.member in
    let here : stands times c.args.t k.1 ≡ true = subst (λ (x : ℕ). stands times x k.1 ≡ true) same there in
    rw (← c.self.view_is)
    (sym (first_found times c.args.t k.1 here (λ r h. source_le k.0 k.1 c.args.t r same (c.in-Some.ensures.least (c.args.t, r) (c.self.invariant c.args.t r ∙ h)))))

pub returns-else-time-get : goal.returns-else-time-get
returns-else-time-get c =
    let times = c.self.inside.times.items in
    let k = c.in-Some.key.now in
    let there : stands times k.0 k.1 ≡ true = sym (c.self.invariant k.0 k.1) ∙ c.in-Some.ensures.member in
    let le : c.args.t ≤ k.0 = from_time times c.args.t k.0 k.1 (rw c.self.view_is c.requires) there in
    let other : k.0 ≡ c.args.t → ⊥ = λ e. c.if-time-get.false (e ∙ sym c.get.ensures.value) in
    rw (← c.self.view_is)
    (sym (first_missing times c.args.t (λ r h.
    let least : k.0 ≤ c.args.t = pair_le k.0 k.1 c.args.t r (c.in-Some.ensures.least (c.args.t, r) (c.self.invariant c.args.t r ∙ h)) in
    other (omega arith))))

pub returns-in_default : goal.returns-in_default
returns-in_default c =
    let times = c.self.inside.times.items in
    let empty : 0 < length c.self.inside.order.keys → ⊥ = λ h. let e = c.in_default.ensures.variant.1 h in cc in
    rw (← c.self.view_is)
    (sym (first_missing times c.args.t (λ r h. let gone = sym (c.self.invariant c.args.t r) ∙ none_contained c.self.inside.order c.args.t r empty in cc)))
