-- The first pending transaction is the only one that can stand at t.
use Rattle.std.proofs.Common.{◌≡◌, List, Some, ap, sym, ◌∙◌}
use Rattle.std.specs.Prelude.{slice_get}
use Rattle.step_data.specs.declared.trans.Trans.{Trans}
use Rattle.waveform.proofs.Advance.{all_after, none_at, stays, takes_over, rising_rest}
use Rattle.waveform.proofs.driver.Driver.advance.Goals as goal

pub returns-then-get-clause-stood : goal.returns-then-get-clause-stood
returns-then-get-clause-stood c =
    let first : slice_get c.self.inside.pending 0 ≡ Some c.in-Some.first = ap (λ (xs : List Trans). slice_get xs 0) (sym c.as_slice.ensures) ∙ sym c.first.ensures.value ∙ sym c.copied.ensures ∙ c.in-Some.is in
    let waits = rw (← c.self.view_is) at c.requires in
    let other : c.in-Some.first.at ≡ c.args.t → ⊥ = λ e. c.if-get.true (c.get.ensures.value ∙ e ∙ sym c.get-2.ensures.value) in
    let later = all_after c.args.t c.self.inside.pending c.in-Some.first first waits other c.self.invariant in
    rw (← c.self.view_is) (λ e. absurd (cc), λ any. absurd (none_at c.args.t c.self.inside.pending later any))

pub returns-then-get-clause-after : goal.returns-then-get-clause-after
returns-then-get-clause-after c =
    let first : slice_get c.self.inside.pending 0 ≡ Some c.in-Some.first = ap (λ (xs : List Trans). slice_get xs 0) (sym c.as_slice.ensures) ∙ sym c.first.ensures.value ∙ sym c.copied.ensures ∙ c.in-Some.is in
    let waits = rw (← c.self.view_is) at c.requires in
    let other : c.in-Some.first.at ≡ c.args.t → ⊥ = λ e. c.if-get.true (c.get.ensures.value ∙ e ∙ sym c.get-2.ensures.value) in
    let later = all_after c.args.t c.self.inside.pending c.in-Some.first first waits other c.self.invariant in
    rw (← c.self.view_is) (sym (stays c.args.t c.self.inside.value c.self.inside.pending later))

pub invariant_of-self : goal.invariant_of-self
invariant_of-self c = rw c.drop_first.ensures (rising_rest c.self.inside.pending c.self.invariant)

pub returns-clause-after : goal.returns-clause-after
returns-clause-after c =
    let first : slice_get c.self.inside.pending 0 ≡ Some c.in-Some.first = ap (λ (xs : List Trans). slice_get xs 0) (sym c.as_slice.ensures) ∙ sym c.first.ensures.value ∙ sym c.copied.ensures ∙ c.in-Some.is in
    let here : c.in-Some.first.at ≡ c.args.t = sym c.get.ensures.value ∙ c.if-get.false ∙ c.get-2.ensures.value in
    rw (c.drop_first.ensures, ← c.self.view_is) (sym (takes_over c.args.t c.self.inside.value c.self.inside.pending c.in-Some.first first here c.self.invariant))
