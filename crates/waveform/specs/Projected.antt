-- The projected waveform of a driver (IEEE 1076, execution of a signal assignment).
use Rattle.std.specs.Prelude.{ℕ, ◌+◌, ◌<◌, Bool, true, nat_lt, ◌&&◌, ◌||◌, if◌then◌else◌, List, [], ◌∷◌, ◌++◌, filter}
use Rattle.std.specs.List.{AllPairs}
use Rattle.ams_value.specs.declared.val.Val.{Val}
use Rattle.ams_value.specs.Values.{equals}
use Rattle.step_data.specs.declared.trans.Trans.{Trans}
use Rattle.waveform.specs.declared.trans.DelayKind.{DelayKind}
use Rattle.waveform.specs.declared.trans.DelayKind.TheVariants.{Transport, Inertial}

-- each transaction is earlier than all later ones
abbrev pub IsRising : List Trans → Type 0
IsRising list = AllPairs (λ a b. a.at < b.at) list

abbrev pub is_before : ℕ → Trans → Bool
is_before t x = nat_lt x.at t

-- the value of the transaction that stands directly behind the old ones: that of the next old one, or of the first new one
abbrev pub next_value : Trans → List Trans → Val
next_value first [] = first.value
next_value first (y ∷ later) = y.value

-- whether the first of some old transactions is marked: it is earlier than the first new one's time less the rejection limit, or it stands directly before a marked one and has an equal value. Behind the last old one stands the first new one, which is marked
unfoldable pub is_marked : ℕ → Trans → List Trans → Bool
is_marked reject first [] = true
is_marked reject first (x ∷ later) = nat_lt (x.at + reject) first.at || (is_marked reject first later && equals x.value (next_value first later))

-- the marked ones of some old transactions
unfoldable pub marked : ℕ → Trans → List Trans → List Trans
marked reject first [] = []
marked reject first (x ∷ later) = if is_marked reject first (x ∷ later) then x ∷ marked reject first later else marked reject first later

-- the old transactions that stay, of those before the first new one
abbrev pub kept : DelayKind → ℕ → Trans → List Trans → List Trans
kept Transport reject first old = old
kept Inertial reject first old = marked reject first old

-- what the pending transactions become: the old ones at or after the first new one's time go, those that stay are followed by the new ones
abbrev pub projected : DelayKind → ℕ → List Trans → List Trans → List Trans
projected kind reject old [] = old
projected kind reject old (first ∷ more) = kept kind reject first (filter (is_before first.at) old) ++ first ∷ more

-- the times of a projected waveform rise
abbrev pub KeepsRising : Type 0
KeepsRising = (kind : DelayKind) (reject : ℕ) (old new : List Trans) → IsRising old → IsRising new → IsRising (projected kind reject old new)
