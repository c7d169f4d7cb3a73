-- The digits are copied into their place.
use Rattle.std.proofs.Common.{length, ◌∙◌, ap, rules}
use Rattle.fix_core.proofs.Texts.{put_part}
use Rattle.fix_core.proofs.text.write_whole.Goals as goal

pub returns-clause-text : goal.returns-clause-text
returns-clause-text c =
    let text = c.as_bytes-digits.ensures.value ∙ c.format.ensures.text in
    put_part c.args.out.now _ _ c.args.at (length c.as_bytes-digits.result.now) (c.copy_from_slice.ensures.after ∙ text) (ap length text) (search rules)
