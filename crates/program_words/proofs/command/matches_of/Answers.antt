use Rattle.std.proofs.Common.{◌≡◌, rules, refl, ap, ◌∙◌, map}
use Rattle.std.proofs.lemmas.Result.{IfErr-weaker, IfOk-weaker}
use Rattle.clap.specs.Simple.{app_of}
use Rattle.word_rules.specs.Words.{texts, option_names}
use Rattle.program_words.specs.Command.{options_app}
use Rattle.program_words.proofs.CommandLemmas.{values_from, takes_from}
use Rattle.program_words.proofs.command.matches_of.Goals as goal

pub returns-clause-values : goal.returns-clause-values
unfolding option_names
returns-clause-values c =
    let named : map (λ s. s.now) c.as_slice.result.now ≡ option_names = search rules in
    let app : app_of c.in_ok-command.field-0 ≡ options_app option_names = c.in_ok-command.ensures ∙ ap options_app named in
    IfOk-weaker c.try_get_matches_from.result _ _ (λ m h name. values_from (app_of c.in_ok-command.field-0) _ (texts c.args.words.now) m app refl c.requires h name) c.try_get_matches_from.ensures.matches

pub returns-clause-memory : goal.returns-clause-memory
unfolding option_names
returns-clause-memory c =
    let named : map (λ s. s.now) c.as_slice.result.now ≡ option_names = search rules in
    let app : app_of c.in_ok-command.field-0 ≡ options_app option_names = c.in_ok-command.ensures ∙ ap options_app named in
    IfErr-weaker c.try_get_matches_from.result _ _ (λ e h. h (takes_from (app_of c.in_ok-command.field-0) _ (texts c.args.words.now) app refl c.requires)) c.try_get_matches_from.ensures.passes
