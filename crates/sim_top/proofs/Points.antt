-- What a call has written is a front of a trace whose points meet their equations, or nothing.
use Rattle.std.proofs.Common.{◌≡◌, ◌⊎◌, ℕ, zero, suc, List, [], ◌++◌, Option, Some, None, Ok, Err, length, take, refl, sym, ap, subst, ◌∙◌, arith, inl, inr}
use Rattle.std.specs.Prelude.{drop}
use Rattle.std.proofs.lemmas.List.{take_all, take-append-drop}
use Rattle.std.proofs.Math.Seq.{take-append_seam}
use Rattle.flat_design.specs.declared.objects.Objects.{Objects}
use Rattle.step_data.specs.declared.outcome.Options.{Options}
use Rattle.step_schedule.specs.declared.Step.{Step}
use Rattle.system_model.specs.Trace as system
use Rattle.port_base.specs.Told.{with_more, with_more_nil}
use Rattle.port_base.specs.Lines.{text_of_lines, text_append, GainsFront}
use Rattle.design_run.specs.Lines.{run_lines, LinesOfRun}
use Rattle.point_laws.specs.Points.{TextMeets}
use Rattle.design_reading.specs.Reading.{Gives}
use Rattle.word_rules.specs.declared.mode.Mode.{Mode}
use Rattle.word_rules.specs.declared.mode.Mode.TheVariants as mode
use Rattle.word_rules.specs.Words.{Text, Request, refusal, request_of}
use Rattle.program_output.specs.Port.{Port, Stays, ReadsAll}
use Rattle.program_output.specs.Output.{Output, HandsOn, noted}
use Rattle.program_output.specs.declared.status.Status.{Status}
use Rattle.text_modes.specs.TextRun.{RunsText}
use Rattle.text_modes.specs.TextReplay.{ReplaysText}
use Rattle.text_threads.specs.TextThreads.{RunsTextOnThreads}
use Rattle.sim_top.specs.Outcome.{options_of, Reads, Performs, EndsBy, Ends}
use Rattle.sim_top.specs.Points.{IsMet, PointsIn, PointsBy, PointsAreMet}

-- ---- a front of an output's lines

-- first lines are a front of the text
lines_front : (n : ℕ) (lines : List (List ℕ)) → take (length (text_of_lines (take n lines))) (text_of_lines lines) ≡ text_of_lines (take n lines)
lines_front n lines =
    let first = text_of_lines (take n lines) in
    let whole : text_of_lines lines ≡ first ++ text_of_lines (drop n lines) =
    ap text_of_lines (sym (take-append-drop n lines)) ∙ text_append (take n lines) (drop n lines) in
    ap (λ (t : List ℕ). take (length first) t) whole ∙ take-append_seam first (text_of_lines (drop n lines))

module _ (output : Output) (s : Status) (trace notes : Port) where
  whole_front : trace.now ≡ with_more trace.before (text_of_lines output.lines) → GainsFront trace.before trace.now (text_of_lines output.lines)
  whole_front e =
      let t = text_of_lines output.lines in
      (length t, e ∙ ap (λ (l : List ℕ). with_more trace.before l) (sym (take_all (length t) t (omega arith))))

  front_of : HandsOn output s trace notes → GainsFront trace.before trace.now (text_of_lines output.lines)
  front_of (inl h) = whole_front h.1
  front_of (inr (inl h)) = h.1.1
  front_of (inr (inr (inl h))) = whole_front h.1
  front_of (inr (inr (inr h))) =
      let first = h.1 in (
        length (text_of_lines (take first.0 output.lines)),
        first.1 ∙ ap (λ (l : List ℕ). with_more trace.before l) (sym (lines_front first.0 output.lines)),
      )

-- beside a note no trace
take_none : (n : ℕ) → take {A = ℕ} n [] ≡ []
take_none zero = refl
take_none (suc n) = refl

stays_beside : (own s : Status) (note : List ℕ) (trace notes : Port) → HandsOn (noted own note) s trace notes → Stays trace
stays_beside own s note trace notes h =
    let front = front_of (noted own note) s trace notes h in
    front.1 ∙ ap (λ (l : List ℕ). with_more trace.before l) (take_none front.0) ∙ with_more_nil trace.before

-- ---- a text

module _ (meet : (objects : Objects) (top : List ℕ) (options : Options) → TextMeets objects top options (system.trace objects top options)) (one : LinesOfRun)
    (s : Status) (request : Request) (source trace notes : Port) where
  is_met : (text : Text) (objects : Objects) → ReadsAll source text → Gives text request.top (Ok objects) →
      GainsFront trace.before trace.now (text_of_lines (run_lines objects request.top (options_of request))) → IsMet request source trace
  is_met text objects read gives front = record {
    text = text;
    read = read;
    objects = objects;
    gives = gives;
    gains = subst (λ (t : List ℕ). GainsFront trace.before trace.now t) (one objects request.top (options_of request)) front;
    meets = meet objects request.top (options_of request);
  }

  by_run : (text : Text) → ReadsAll source text → RunsText s text request.top (options_of request) trace notes → Stays trace ⊎ IsMet request source trace
  by_run text read (inl (Ok objects, gives, hands)) = inr (is_met text objects read gives (front_of _ s trace notes hands))
  by_run text read (inl (Err note, gives, hands)) = inl (stays_beside _ s note trace notes hands)
  by_run text read (inr lacks) = inl lacks.1

  by_replay : (schedule : List Step) (text : Text) → ReadsAll source text → ReplaysText s text request.top (options_of request) schedule trace notes →
      Stays trace ⊎ IsMet request source trace
  by_replay schedule text read (inl (Ok objects, gives, hands)) = inr (is_met text objects read gives (front_of _ s trace notes hands))
  by_replay schedule text read (inl (Err note, gives, hands)) = inl (stays_beside _ s note trace notes hands)
  by_replay schedule text read (inr lacks) = inl lacks.1

  by_threads : (text : Text) → ReadsAll source text → RunsTextOnThreads s text request.top (options_of request) trace notes → Stays trace ⊎ IsMet request source trace
  by_threads text read (inl (Ok objects, gives, hands)) = inr (is_met text objects read gives (front_of _ s trace notes hands.2))
  by_threads text read (inl (Err note, gives, hands)) = inl (stays_beside _ s note trace notes hands)
  by_threads text read (inr lacks) = inl lacks.1

  by_source : (Handed : Text → Type 0) → ((text : Text) → ReadsAll source text → Handed text → Stays trace ⊎ IsMet request source trace) → Reads Handed s source trace notes →
      Stays trace ⊎ IsMet request source trace
  by_source Handed by (inl h) = inl h.2
  by_source Handed by (inr (inl h)) = inl (stays_beside _ s _ trace notes h.1)
  by_source Handed by (inr (inr (inl h))) = by h.0 h.1 h.3
  by_source Handed by (inr (inr (inr h))) = inl h.1

  by_mode : (m : Mode) → Performs m s request source trace notes → PointsIn m request source trace
  by_mode mode.Run h = by_source _ by_threads h
  by_mode mode.Lockstep h = by_source _ by_run h
  by_mode mode.Replay h = by_source _ (by_replay _) h
  by_mode mode.Make h = tt

  without_memory : (m : Mode) → Stays trace → PointsIn m request source trace
  without_memory mode.Run stays = inl stays
  without_memory mode.Lockstep stays = inl stays
  without_memory mode.Replay stays = inl stays
  without_memory mode.Make stays = tt

  by_words : (number : Option ℕ) → EndsBy number s request source trace notes → PointsBy number request source trace
  by_words (Some number) h = stays_beside _ s _ trace notes h.1
  by_words None (inl h) = by_mode request.mode h
  by_words None (inr h) = without_memory request.mode h.1.1

pub points_of_call : ((objects : Objects) (top : List ℕ) (options : Options) → TextMeets objects top options (system.trace objects top options)) → LinesOfRun →
    (s : Status) (words : List Text) (source trace notes : Port) → Ends s words source trace notes → PointsAreMet words source trace
points_of_call meet one s words source trace notes ends = by_words meet one s (request_of words) source trace notes (refusal words) ends
