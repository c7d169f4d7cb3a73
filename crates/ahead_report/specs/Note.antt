-- The note of a run whose attempts are saved ahead (own).
use Rattle.std.specs.Prelude.{ℕ, List, ◌++◌, codes, decimal}
use Rattle.ahead_report.specs.declared.Report.{Report}

-- a word and a number, each behind a space
abbrev pub count_text : List ℕ → ℕ → List ℕ
count_text word number = codes " " ++ word ++ codes " " ++ decimal number

-- one line: how often the timeline gave each reply that is told, and how many attempts the engine made itself
abbrev pub report_note : Report → List ℕ
report_note r =
    codes "ahead"
    ++ count_text (codes "begins") r.counts.begins
    ++ count_text (codes "taken") r.counts.taken
    ++ count_text (codes "saved") r.counts.saved
    ++ count_text (codes "stale") r.counts.stale
    ++ count_text (codes "reused") r.counts.reused
    ++ count_text (codes "own") r.own
    ++ codes "\n"
