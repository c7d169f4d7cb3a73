-- Where nothing fails, one of the ways in which a call ends is left, besides want of memory.
use Rattle.std.proofs.Common.{◌≡◌, ◌⊎◌, ℕ, ◌≤◌, ◌<◌, List, [], ◌++◌, Option, Some, None, IfSome, Result, length, sym, ap, subst, ◌∙◌, arith, inl, inr}
use Rattle.std.proofs.lemmas.List.{append-nil}
use Rattle.port_base.specs.Told.{with_front}
use Rattle.flat_design.specs.declared.objects.Objects.{Objects}
use Rattle.step_data.specs.declared.outcome.Options.{Options}
use Rattle.word_rules.specs.declared.mode.Mode.{Mode}
use Rattle.word_rules.specs.declared.mode.Mode.TheVariants as mode
use Rattle.word_rules.specs.Words.{Text, Request, request_of}
use Rattle.design_reading.specs.Reading.{Gives}
use Rattle.one_reading.specs.Once.{GivesOnce}
use Rattle.program_output.specs.Port.{Port, Fails}
use Rattle.program_output.specs.Output.{Output, HandsOn}
use Rattle.program_output.specs.declared.status.Status.{Status}
use Rattle.program_output.specs.declared.status.Status.TheVariants as status
use Rattle.text_modes.specs.Start.{most_bytes}
use Rattle.text_modes.specs.TextRun.{text_output, RunsText}
use Rattle.sim_top.specs.Outcome.{options_of, Simulates, Performs, EndsBy}
use Rattle.sim_top.specs.Whole.{HandsOnAll, OutputsAreWhole}

some_same : {A : Type 0} (x y : A) → Some x ≡ Some y → x ≡ y
some_same x y h = cc

-- what was left is the text that was read
all_read : (text bytes : List ℕ) (now : Option (List ℕ)) → Some text ≡ with_front bytes now → IfSome now (λ rest. rest ≡ []) → bytes ≡ text
all_read text bytes None h e = cc
all_read text bytes (Some rest) h e = sym (append-nil bytes) ∙ ap (λ l. bytes ++ l) (sym e) ∙ sym (some_same text (bytes ++ rest) h)

-- an output behind which nothing failed
all_handed : (output : Output) (s : Status) (trace notes : Port) → ¬ Fails trace → ¬ Fails notes → HandsOn output s trace notes → HandsOnAll output s trace notes ⊎ (s ≡ status.Memory)
all_handed output s trace notes writes noted (inl whole) = inl whole
all_handed output s trace notes writes noted (inr (inl h)) = absurd (writes h.1.0)
all_handed output s trace notes writes noted (inr (inr (inl h))) = absurd (noted h.2.0)
all_handed output s trace notes writes noted (inr (inr (inr h))) = inr h.0

module _ (once : GivesOnce) (s : Status) (text top : Text) (design : Result Objects (List ℕ)) (options : Options) (trace notes : Port) (writes : ¬ Fails trace) (noted : ¬ Fails notes) (gives : Gives text top design) where
  by_text : RunsText s text top options trace notes → HandsOnAll (text_output top options design) s trace notes ⊎ (s ≡ status.Memory)
  by_text (inl run) =
      all_handed (text_output top options design) s trace notes writes noted
      (subst (λ (d : Result Objects (List ℕ)). HandsOn (text_output top options d) s trace notes) (once text top run.0 design run.1 gives) run.2)
  by_text (inr nothing) = inr nothing.0

not_long : (before : Option (List ℕ)) (text : Text) → before ≡ Some text → IfSome before (λ bytes. most_bytes < length bytes) → length text ≤ most_bytes → ⊥
not_long before text told long short =
    let more : most_bytes < length text = subst (λ (o : Option (List ℕ)). IfSome o (λ bytes. most_bytes < length bytes)) told long in
    omega (arith, more, short)

module _ (once : GivesOnce) (s : Status) (request : Request) (text : Text) (design : Result Objects (List ℕ)) (source trace notes : Port) (told : source.before ≡ Some text) (short : length text ≤ most_bytes) (reads : ¬ Fails source) (writes : ¬ Fails trace) (noted : ¬ Fails notes) (gives : Gives text request.top design) where
  by_call : Simulates s request source trace notes → HandsOnAll (text_output request.top (options_of request) design) s trace notes ⊎ (s ≡ status.Memory)
  by_call (inl h) = absurd (reads h.1)
  by_call (inr (inl h)) = absurd (not_long source.before text told h.0 short)
  by_call (inr (inr (inl h))) =
      by_text once s text request.top design (options_of request) trace notes writes noted gives
      (subst (λ (t : Text). RunsText s t request.top (options_of request) trace notes) (all_read text h.0 source.now (sym told ∙ h.1.0) h.1.1) h.3)
  by_call (inr (inr (inr h))) = inr h.0

by_words : (m : Mode) (s : Status) (request : Request) (source trace notes : Port) → m ≡ mode.Lockstep → Performs m s request source trace notes → Simulates s request source trace notes
by_words m s request source trace notes e h = subst (λ (n : Mode). Performs n s request source trace notes) e h

pub outputs_are_whole : GivesOnce → OutputsAreWhole
outputs_are_whole once s words text design source trace notes ends sound gives =
    let request = request_of words in
    elim (subst (λ (r : Option ℕ). EndsBy r s request source trace notes) sound.accepted ends)
    as (λ _. HandsOnAll (text_output request.top (options_of request) design) s trace notes ⊎ (s ≡ status.Memory)) [
      | inl h ↦
          by_call once s request text design source trace notes sound.told sound.short sound.reads sound.writes sound.tells gives
          (by_words request.mode s request source trace notes sound.lockstep h)
      | inr h ↦ inr h.1.0
    ]
