use Rattle.text_threads.proofs.Handing.{tells_told}
use Rattle.text_threads.proofs.text.tell_report.Goals as goal

pub returns-in-Ok-report_note : goal.returns-in-Ok-report_note
returns-in-Ok-report_note g c =
    tells_told c.args.ran c.in-Ok.told c.in-Ok-report_note.note.items c.deref.result.now c.end_status.result c.tell.result _ c.in-Ok.is c.in-Ok-report_note.ensures c.deref.ensures.value c.end_status.ensures c.tell.ensures
