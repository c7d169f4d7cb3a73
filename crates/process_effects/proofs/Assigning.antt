-- A signal assignment, part by part.
use Rattle.std.proofs.Common.{◌≡◌, refl, sym, ◌∙◌, ap, subst, ℕ, ℤ, List}
use Rattle.std.specs.Prelude.{Option, None, Result, Ok, Err}
use Rattle.std.specs.List.{slice_get}
use Rattle.fix_core.specs.Passes.{◌>>=◌}
use Rattle.flat_expr.specs.declared.subtype.Constraint.{Constraint}
use Rattle.flat_expr.specs.declared.statement.WaveElement.{WaveElement}
use Rattle.flat_expr.specs.declared.statement.DelayMechanism.{DelayMechanism}
use Rattle.step_data.specs.declared.trans.Trans.{Trans}
use Rattle.step_data.specs.declared.outcome.Refusal.{Refusal}
use Rattle.waveform.specs.declared.trans.DelayKind.{DelayKind}
use Rattle.design_meaning.specs.Readings.{Readings}
use Rattle.cycle_meaning.specs.World.{Context, Local, readings_at}
use Rattle.cycle_meaning.specs.Statements.{constraint_of, transactions, limit_of, delay_kind_of, rejection, assigned, signal_assignment}
use Rattle.statement_values.specs.Parts.{fits_both}
use Rattle.statement_lists.specs.declared.fault.ListFault.{ListFault}
use Rattle.statement_lists.specs.declared.fault.ListFault.TheVariants as fault
use Rattle.statement_lists.specs.Waves.{IsWaveform}
use Rattle.statement_lists.proofs.Rising.{waveforms}
use Rattle.process_place.specs.ProcessPlace.{ProcessPlace}
use Rattle.process_place.specs.Moves.{goes_to, or_refused}
use Rattle.process_effects.specs.Effects.{Leads, with_waveform}

-- the limit and then the transactions
both_made : (limit : Result (Option ℤ) Refusal) (new : Option ℤ → Result (List Trans) Refusal) (use_them : Option ℤ → List Trans → Local) (k : Option ℤ) (found : List Trans) →
    limit ≡ Ok k → new k ≡ Ok found → (limit >>= (λ k. new k >>= (λ n. Ok (use_them k n)))) ≡ Ok (use_them k found)
both_made limit new use_them k found is made = rw (is, made) refl

second_refused : (limit : Result (Option ℤ) Refusal) (new : Option ℤ → Result (List Trans) Refusal) (use_them : Option ℤ → List Trans → Local) (k : Option ℤ) (r : Refusal) →
    limit ≡ Ok k → new k ≡ Err r → (limit >>= (λ k. new k >>= (λ n. Ok (use_them k n)))) ≡ Err r
second_refused limit new use_them k r is refused = rw (is, refused) refl

is_made : (here : Context) (l : Local) (i : ℕ) (constraint declared : Constraint) (m : DelayMechanism) (limit : Option ℤ) (wave : List WaveElement) (found : List Trans) →
    declared ≡ constraint_of (slice_get here.objects.signals i) → limit_of here l m ≡ Ok limit →
    transactions here l (fits_both (record { written = constraint; declared = declared })) limit None wave ≡ Ok found →
    signal_assignment here l i constraint m wave ≡ Ok (assigned here i m limit found l)
is_made here l i constraint declared m limit wave found same known made =
    both_made (limit_of here l m) (λ k. transactions here l (λ v. fits_both (record { written = constraint; declared = constraint_of (slice_get here.objects.signals i) }) v) k None wave) (λ k new. assigned here i m k new l) limit found known
    (subst (λ d. transactions here l (fits_both (record { written = constraint; declared = d })) limit None wave ≡ Ok found) same made)

is_refused_here : (here : Context) (l : Local) (i : ℕ) (constraint declared : Constraint) (m : DelayMechanism) (limit : Option ℤ) (wave : List WaveElement) (r : Refusal) →
    declared ≡ constraint_of (slice_get here.objects.signals i) → limit_of here l m ≡ Ok limit →
    transactions here l (fits_both (record { written = constraint; declared = declared })) limit None wave ≡ Err r →
    signal_assignment here l i constraint m wave ≡ Err r
is_refused_here here l i constraint declared m limit wave r same known refused =
    second_refused (limit_of here l m) (λ k. transactions here l (λ v. fits_both (record { written = constraint; declared = constraint_of (slice_get here.objects.signals i) }) v) k None wave) (λ k new. assigned here i m k new l) limit r known
    (subst (λ d. transactions here l (fits_both (record { written = constraint; declared = d })) limit None wave ≡ Err r) same refused)

pub refused_leads : (here : Context) (l : Local) (i : ℕ) (constraint declared : Constraint) (m : DelayMechanism) (limit : Option ℤ) (wave same_wave : List WaveElement) (f : ListFault) →
    declared ≡ constraint_of (slice_get here.objects.signals i) → limit_of here l m ≡ Ok limit → same_wave ≡ wave →
    ((r : Refusal) → ◌≡◌ {A = Result (Unit {0}) ListFault} (Err f) (Err (fault.Refused r)) → transactions here l (fits_both (record { written = constraint; declared = declared })) limit None same_wave ≡ Err r) →
    Leads (λ p. or_refused l (goes_to p) (signal_assignment here l i constraint m wave)) l l (Err f)
refused_leads here l i constraint declared m limit wave same_wave (fault.Refused r) same known slice refused =
    λ p. rw (sym slice, is_refused_here here l i constraint declared m limit same_wave r same known (refused r refl)) refl
refused_leads here l i constraint declared m limit wave same_wave fault.Memory same known slice refused = refl

pub made_leads : (here : Context) (l after : Local) (i : ℕ) (constraint declared : Constraint) (m : DelayMechanism) (limit : Option ℤ) (wave same_wave : List WaveElement) (found same_found : List Trans) (kind : DelayKind) (reject : ℕ) →
    declared ≡ constraint_of (slice_get here.objects.signals i) → limit_of here l m ≡ Ok limit → same_wave ≡ wave → same_found ≡ found →
    transactions here l (fits_both (record { written = constraint; declared = declared })) limit None same_wave ≡ Ok found →
    kind ≡ delay_kind_of m → reject ≡ rejection here.t limit same_found → after ≡ with_waveform here i kind reject same_found l →
    (p : ProcessPlace) → or_refused l (λ x. goes_to p x) (signal_assignment here l i constraint m wave) ≡ goes_to p after
made_leads here l after i constraint declared m limit wave same_wave found same_found kind reject same known slice founds made kinds rejects is p =
    rw (sym slice, is_made here l i constraint declared m limit same_wave found same known made, is, kinds, rejects, founds) refl

pub is_waveform : (here : Context) (l : Local) (constraint declared : Constraint) (limit : Option ℤ) (wave same_wave : List WaveElement) (found same_found : List Trans) →
    same_wave ≡ wave → same_found ≡ found → transactions here l (fits_both (record { written = constraint; declared = declared })) limit None same_wave ≡ Ok found → IsWaveform here wave same_found
is_waveform here l constraint declared limit wave same_wave found same_found slice founds made =
    subst (λ w. IsWaveform here w same_found) slice
    (subst (λ n. IsWaveform here same_wave n) (sym founds) (waveforms here l (fits_both (record { written = constraint; declared = declared })) limit same_wave found made))

pub rejects_so : (here : Context) (l : Local) (r : Readings) (t : ℕ) (limit : Option ℤ) (found one_found same_found : List Trans) (reject : ℕ) →
    readings_at here l ≡ r → t ≡ r.now → one_found ≡ found → same_found ≡ found → reject ≡ rejection t limit one_found → reject ≡ rejection here.t limit same_found
rejects_so here l r t limit found one_found same_found reject reads now one same is =
    let time : t ≡ here.t = now ∙ sym (ap (λ (x : Readings). x.now) reads) in
    is ∙ (ap (λ n. rejection n limit one_found) time ∙ ap (rejection here.t limit) (one ∙ sym same))
