-- The mode of accepted words.
use Rattle.std.proofs.Common.{◌≡◌, ℕ, ◌&&◌, Bool, true, false, List, Option, Some, None, is_none, refl, sym, ap, subst, ◌∙◌, inl, inr}
use Rattle.word_rules.specs.declared.mode.Mode.{Mode}
use Rattle.word_rules.specs.declared.mode.Mode.TheVariants as mode
use Rattle.word_rules.specs.Words.{Text, Request, refusal, request_of, mode_of, is_run, wants_threads}
use Rattle.program_words.specs.declared.settings.Settings.{Settings}
use Rattle.program_words.specs.Asked.{asked}
use Rattle.program_output.specs.Port.{Port, Stays}
use Rattle.program_output.specs.declared.status.Status.{Status}
use Rattle.program_output.specs.declared.status.Status.TheVariants as status
use Rattle.sim_top.specs.Outcome.{RunsAhead, Performs, EndsBy, Ends}

both : (o : Option ℕ) (b : Bool) → (is_none o && b) ≡ true → (o ≡ None) × (b ≡ true)
both None b h = (refl, h)
both (Some n) b h = absurd (cc)

run_mode : (m : Mode) → is_run m ≡ true → m ≡ mode.Run
unfolding is_run
run_mode mode.Run h = refl
run_mode mode.Lockstep h = absurd (cc)
run_mode mode.Replay h = absurd (cc)
run_mode mode.Make h = absurd (cc)

-- where the mode is another one, it isn't run
pub never_run : (m : Mode) → m ≡ mode.Run → is_run m ≡ false → ⊥
unfolding is_run
never_run m e h = let both_are : false ≡ true = sym h ∙ ap is_run e in cc

wants : (words : List Text) → wants_threads words ≡ true → (refusal words ≡ None) × (is_run (mode_of words) ≡ true)
unfolding wants_threads
wants words h = both (refusal words) (is_run (mode_of words)) h

-- words that want threads are accepted
pub accepted : (words : List Text) → wants_threads words ≡ true → refusal words ≡ None
accepted words h = (wants words h).0

not_run : (o : Option ℕ) (b : Bool) → o ≡ None → (is_none o && b) ≡ false → b ≡ false
not_run None b e h = h
not_run (Some n) b e h = absurd (cc)

-- accepted words that don't want threads ask for another mode
pub plain_mode : (words : List Text) (settings : Settings) → wants_threads words ≡ false → refusal words ≡ None → asked settings ≡ request_of words → is_run settings.mode ≡ false
unfolding wants_threads
plain_mode words settings h r e =
    let same : settings.mode ≡ mode_of words = ap (λ (q : Request). q.mode) e in
    ap is_run same ∙ not_run (refusal words) (is_run (mode_of words)) r h

pub ends_ahead : (s : Status) (words : List Text) (settings : Settings) (source trace notes : Port) → wants_threads words ≡ true → asked settings ≡ request_of words →
    RunsAhead s (asked settings) source trace notes → Ends s words source trace notes
ends_ahead s words settings source trace notes h e runs =
    let request = request_of words in
    let mine : RunsAhead s request source trace notes = subst (λ (q : Request). RunsAhead s q source trace notes) e runs in
    let is : request.mode ≡ mode.Run = run_mode request.mode (wants words h).1 in
    let performs : Performs request.mode s request source trace notes = subst (λ (m : Mode). Performs m s request source trace notes) (sym is) mine in
    subst (λ (o : Option ℕ). EndsBy o s request source trace notes) (sym (accepted words h)) (inl performs)

pub ends_without_memory : (words : List Text) (source trace notes : Port) → wants_threads words ≡ true → Stays source → Stays trace → Stays notes →
    Ends status.Memory words source trace notes
ends_without_memory words source trace notes h read written told =
    subst (λ (o : Option ℕ). EndsBy o status.Memory (request_of words) source trace notes) (sym (accepted words h)) (inr (read, (refl, written, told)))
