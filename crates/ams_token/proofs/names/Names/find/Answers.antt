use Rattle.std.proofs.Common.{sym, ◌∙◌}
use Rattle.std.specs.Str.{bytes_eq}
use Rattle.std.specs.String.{string_bytes}
use Rattle.ams_token.proofs.Places.{position-map}
use Rattle.ams_token.proofs.names.Names.find.Goals as goal

pub returns-in-Some : goal.returns-in-Some
returns-in-Some c = rw (← c.self.view_is) (c.in-Some.ensures.index ∙ sym (position-map (bytes_eq c.args.text.now) string_bytes c.self.inside.texts.keys))

pub returns-in-None : goal.returns-in-None
returns-in-None c = rw (← c.self.view_is) (c.in-None.ensures.index ∙ sym (position-map (bytes_eq c.args.text.now) string_bytes c.self.inside.texts.keys))
