-- The points of the trace that a call has written.
use Rattle.std.specs.Prelude.{ℕ, List, Option, Some, None, Ok, ◌⊎◌}
use Rattle.flat_design.specs.declared.objects.Objects.{Objects}
use Rattle.port_base.specs.Lines.{GainsFront}
use Rattle.word_rules.specs.declared.mode.Mode.{Mode}
use Rattle.word_rules.specs.declared.mode.Mode.TheVariants as mode
use Rattle.word_rules.specs.Words.{Text, Request, refusal, request_of}
use Rattle.system_model.specs.Trace as system
use Rattle.point_laws.specs.Points.{TextMeets}
use Rattle.design_reading.specs.Reading.{Gives}
use Rattle.program_output.specs.Port.{Port, Stays, ReadsAll}
use Rattle.sim_top.specs.Outcome.{options_of}

-- The trace has gained a front of a text, that of the trace of the flat design which the text of the source gives, and each point in
-- that one meets its equations.
pub record IsMet (request : Request) (source trace : Port) : Type 0 where
  pub text : Text
  pub read : ReadsAll source text
  pub objects : Objects
  pub gives : Gives text request.top (Ok objects)
  pub gains : GainsFront trace.before trace.now (system.trace objects request.top (options_of request))
  pub meets : TextMeets objects request.top (options_of request) (system.trace objects request.top (options_of request))

-- mode make writes no points
abbrev pub PointsIn : Mode → Request → Port → Port → Type 0
PointsIn mode.Run request source trace = Stays trace ⊎ IsMet request source trace
PointsIn mode.Lockstep request source trace = Stays trace ⊎ IsMet request source trace
PointsIn mode.Replay request source trace = Stays trace ⊎ IsMet request source trace
PointsIn mode.Make request source trace = Unit {0}

-- with refused words there is no trace
abbrev pub PointsBy : Option ℕ → Request → Port → Port → Type 0
PointsBy (Some number) request source trace = Stays trace
PointsBy None request source trace = PointsIn request.mode request source trace

-- a call with these words
abbrev pub PointsAreMet : List Text → Port → Port → Type 0
PointsAreMet words source trace = PointsBy (refusal words) (request_of words) source trace
