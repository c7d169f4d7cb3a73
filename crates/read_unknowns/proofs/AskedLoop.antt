-- The loop over the unknowns.
use Rattle.std.proofs.Common.{◌≡◌, ◌<◌, ◌≤◌, ◌+◌, ℕ, Bool, List, [], ◌∷◌, ◌++◌, length, drop, get_or, sym, append_assoc}
use Rattle.std.specs.Prelude.{◌||◌, not, if◌then◌else◌}
use Rattle.std.proofs.lemmas.List.{drop_more, drop_all, append-nil}
use Rattle.flat_expr.specs.declared.expr.Unknown.{Unknown}
use Rattle.read_unknowns.specs.Asked.{asked_from}

pub asked_next : (stands : Unknown → Bool) (found : Bool) (i : ℕ) (us : List Unknown) (d : Unknown) (done more : List ℕ) → i < length us
    → more ≡ done ++ (if stands (get_or us i d) || not found then i ∷ [] else [])
    → done ++ asked_from stands found i (drop i us) ≡ more ++ asked_from stands (found || not (stands (get_or us i d))) (i + 1) (drop (i + 1) us)
unfolding asked_from
asked_next stands found i us d done more h e =
    rw (drop_more us i d h, e)
    (sym (append_assoc done (if stands (get_or us i d) || not found then i ∷ [] else []) (asked_from stands (found || not (stands (get_or us i d))) (i + 1) (drop (i + 1) us))))

pub asked_end : (stands : Unknown → Bool) (found : Bool) (i : ℕ) (us : List Unknown) (done : List ℕ) → length us ≤ i → done ++ asked_from stands found i (drop i us) ≡ done
unfolding asked_from
asked_end stands found i us done h = rw (drop_all i us h) (append-nil done)
