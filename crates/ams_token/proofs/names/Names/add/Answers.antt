use Rattle.std.proofs.Common.{sym, ◌∙◌, ap, map}
use Rattle.std.specs.String.{string_bytes}
use Rattle.std.proofs.lemmas.List.{length-map}
use Rattle.ams_token.proofs.Places.{put_last}
use Rattle.ams_token.proofs.names.Names.add.Goals as goal

pub returns-clause-ok : goal.returns-clause-ok
returns-clause-ok c =
    rw (← c.self.view_is) (
      c.in-Ok.ensures.1 ∙ (c.len.ensures.len ∙ sym (length-map c.self.inside.texts.keys string_bytes)),
      ap (map string_bytes) c.in_ok-insert.ensures.keys ∙ put_last c.self.inside.texts.keys c.in_ok-from_str.field-0 c.args.text.now c.in_ok-from_str.ensures.ok (rw c.self.view_is c.requires),
    )
