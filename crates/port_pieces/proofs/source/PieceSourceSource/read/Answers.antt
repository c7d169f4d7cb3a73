use Rattle.std.proofs.Common.{ℕ, ◌≡◌, ◌+◌, ◌-◌, ◌++◌, List, Some, length, take, drop, arith, sym, ap, ◌∙◌, take-append-drop}
use Rattle.std.proofs.lemmas.List.{take_at, drop-drop, length-take-le}
use Rattle.port_pieces.specs.Pieces.{PieceSourceState}
use Rattle.port_pieces.proofs.source.PieceSourceSource.read.Goals as goal

-- the next bytes stand at the front of the buffer, and what is behind them is left
front : (bytes lent copied behind left : List ℕ) (at count : ℕ) → left ≡ drop at bytes → lent ≡ bytes → copied ≡ take (at + count - at) (drop at lent) → length copied ≡ count →
    left ≡ take count (copied ++ behind) ++ drop (at + count) bytes
front bytes lent copied behind left at count old lent_is copy len =
    let same : at + count - at ≡ count = omega arith in
    let given : copied ≡ take count (drop at bytes) = copy ∙ ap (λ n. take n (drop at lent)) same ∙ ap (λ l. take count (drop at l)) lent_is in
    old ∙ sym (take-append-drop count (drop at bytes))
    ∙ ap (λ l. take count (drop at bytes) ++ l) (drop-drop count at bytes)
    ∙ ap (λ l. l ++ drop (at + count) bytes) (sym given ∙ sym (take_at copied behind count len))

pub returns-clause-bytes : goal.returns-clause-bytes
returns-clause-bytes c = ap Some (front c.self.inside.bytes.items c.deref-2.result.now c.copy_from_slice.new.self _ _ c.self.inside.at c.min-count.result
    (ap (λ (s : PieceSourceState). s.left) (sym c.self.view_is)) c.deref-2.ensures.value c.copy_from_slice.ensures.after
    (c.copy_from_slice.ensures.len ∙ length-take-le c.min-count.result c.args.buf.now (omega arith)))
