-- The kept transactions and the new ones are the projected waveform.
use Rattle.std.proofs.Common.{◌≡◌, ◌++◌, List, take, drop, ap, sym, ◌∙◌}
use Rattle.step_data.specs.declared.trans.Trans.{Trans}
use Rattle.waveform.specs.Projected.{IsRising, projected}
use Rattle.waveform.proofs.Advance.{by_answer, projected_is}
use Rattle.waveform.proofs.Rising.{projected-rising}
use Rattle.waveform.proofs.driver.Driver.assign.Goals as goal

pub invariant_of-self : goal.invariant_of-self
invariant_of-self c =
    let old = c.self.inside.pending in
    let new = c.args.new.now in
    let k = c.kept_of-kept.result in
    let parts = rw c.as_slice.ensures at c.kept_of-kept.ensures.kept in
    let whole : take k.early old ++ drop k.from (take k.end old) ++ new ≡ projected c.args.kind c.args.reject old new =
    ap (λ (xs : List Trans). xs ++ new) (sym parts) ∙ projected_is c.args.kind c.args.reject old new c.index-new-0.result c.requires.some c.index-new-0.is in
    let rises : IsRising (projected c.args.kind c.args.reject old new) = projected-rising c.args.kind c.args.reject old new c.self.invariant c.requires.rising in
    by_answer c.replace.result (c.replace.new.self ≡ take k.early old ++ drop k.from (take k.end old) ++ new) (c.replace.new.self ≡ old) (IsRising c.replace.new.self)
    (λ p. rw (p, whole) rises) (λ q. rw q c.self.invariant) c.replace.ensures.ok c.replace.ensures.err
