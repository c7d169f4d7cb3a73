-- What is kept of processes that wait is what is kept of their states.
use Rattle.std.proofs.Common.{◌≡◌, refl, sym, ◌∙◌, ap, subst, ℕ, zero, suc, ◌<◌, List, [], ◌∷◌, length, map, Some, arith}
use Rattle.std.specs.Prelude.{slice_index_or}
use Rattle.std.specs.List.{slice_get}
use Rattle.std.proofs.lemmas.List.{length-map}
use Rattle.ams_value.specs.declared.val.Val.{Val}
use Rattle.flat_design.specs.declared.objects.Process.{Process}
use Rattle.cycle_meaning.specs.Processes.{variables_at}
use Rattle.kernel_world.specs.declared.world.World.{World}
use Rattle.kernel_world.specs.Acting.{context_of, world_of}
use Rattle.resumption.specs.Sleeps.{Sleep, sleeps_of}
use Rattle.resumption.specs.Waits.{no_sleep, IsThere, AreThere}
use Rattle.process_runs.specs.Kept.{Kept, state_kept, states_kept, with_own, numbered, CanRun}
use Rattle.process_runs.specs.Sleeping.{asleep, SleepsFollow}
use Rattle.process_runs.proofs.Nexts.{there, stands}
use Rattle.process_runs.proofs.Rests.{ready_there}

-- each has the variables of its state
record Seen (ps : List Process) (ks : List Kept) : Type 0 where
  pub count : length ks ≡ length ps
  pub each : (i : ℕ) (p : Process) (k : Kept) → slice_get ps i ≡ Some p → slice_get ks i ≡ Some k → variables_at p (state_kept p k) ≡ k.variables

sleeps_same : (ps : List Process) (ks : List Kept) → Seen ps ks → map asleep ks ≡ sleeps_of ps (states_kept ps ks)
sleeps_same [] [] s = refl
sleeps_same [] (k ∷ ks) s = absurd (omega (arith, s.count))
sleeps_same (p ∷ ps) [] s = absurd (omega (arith, s.count))
sleeps_same (p ∷ ps) (k ∷ ks) s =
    ap (λ (vs : List Val). (record { wait = k.wait; timeout = k.timeout; variables = vs }) ∷ map asleep ks) (sym (s.each 0 p k refl refl))
    ∙ ap (λ (z : List Sleep). (record { wait = k.wait; timeout = k.timeout; variables = variables_at p (state_kept p k) }) ∷ z)
    (sleeps_same ps ks (record { count = omega (arith, s.count); each = λ i q j hq hj. s.each (suc i) q j hq hj }))

element : (ps : List Process) (ks : List Kept) (i : ℕ) → length ks ≡ length ps → i < length ks → (p : Process) × (k : Kept) × (slice_get ps i ≡ Some p) × (slice_get ks i ≡ Some k)
element [] [] i same h = absurd (omega (arith, h))
element [] (k ∷ ks) i same h = absurd (omega (arith, same))
element (p ∷ ps) [] i same h = absurd (omega (arith, same))
element (p ∷ ps) (k ∷ ks) zero same h = (p, k, refl, refl)
element (p ∷ ps) (k ∷ ks) (suc i) same h = element ps ks i (omega (arith, same)) (omega (arith, h))

mapped : (ks : List Kept) (i : ℕ) (k : Kept) (d : Sleep) → slice_get ks i ≡ Some k → slice_index_or (map asleep ks) i d ≡ asleep k
mapped [] i k d h = absurd (cc)
mapped (j ∷ ks) zero k d h = let same : j ≡ k = cc in ap asleep same
mapped (j ∷ ks) (suc i) k d h = mapped ks i k d h

is_there : (w : World) (ps : List Process) (ks : List Kept) → CanRun (context_of w) (world_of w) ps ks → AreThere w (map asleep ks)
is_there w ps ks can i h =
    let e = element ps ks i can.count (subst (λ (n : ℕ). i < n) (length-map ks asleep) h) in
    subst (IsThere w i) (sym (mapped ks i e.1 no_sleep e.3)) (
      e.0,
      ready_there (numbered (context_of w) i) e.0 (with_own (world_of w) e.1) e.1.stack (there (context_of w) ps i e.0 can.processes e.2) (stands (context_of w) (world_of w) ps ks i e.0 e.1 can e.2 e.3),
    )

pub sleeps_follow : SleepsFollow
sleeps_follow =
    record {
      states = λ w ps ks can. sleeps_same ps ks (record { count = can.count; each = λ i p k hp hk. (can.waiting i p k hp hk).keeps.keeps.variables_are });
      there = is_there;
    }
