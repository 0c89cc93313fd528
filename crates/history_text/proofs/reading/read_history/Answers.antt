use Rattle.std.proofs.Common.{map}
use Rattle.history_text.specs.Own.{lines_of}
use Rattle.history_text.proofs.Telling.{err_from, names_first, names_none, none_bad}
use Rattle.history_text.proofs.Turning.{err_then, in_turn_of, ok_then, readable, unreadable_first}
use Rattle.history_text.proofs.reading.read_history.Goals as goal

pub returns-in-Ok-clause-refused : goal.returns-in-Ok-clause-refused
returns-in-Ok-clause-refused g c =
    let lines = lines_of c.args.text.now in
    let tolds = map (λ placed. placed.told) c.in-Ok.tolds.items in
    err_from c.history_of.result _ (λ error own. names_none g.O.Worded.wording lines error (none_bad g.O.Worded.wording 1 lines tolds (c.in-Ok.ensures.told own)))

pub returns-in-Ok-clause-readable : goal.returns-in-Ok-clause-readable
returns-in-Ok-clause-readable g c =
    let tolds = map (λ placed. placed.told) c.in-Ok.tolds.items in
    ok_then c.history_of.result _ c.history_of.ensures.in_turn
    (λ history in_turn own. readable g.O.Worded.wording (lines_of c.args.text.now) tolds (c.in-Ok.ensures.told own) in_turn)

pub returns-in-Ok-clause-unreadable : goal.returns-in-Ok-clause-unreadable
returns-in-Ok-clause-unreadable g c =
    let tolds = map (λ placed. placed.told) c.in-Ok.tolds.items in
    err_then c.history_of.result c.history_of.ensures.refused
    (λ error not own refusal can. not refusal (in_turn_of g.O.Worded.wording (lines_of c.args.text.now) tolds (c.in-Ok.ensures.told own) can))

pub returns-in-Err-clause-refused : goal.returns-in-Err-clause-refused
returns-in-Err-clause-refused g c =
    λ own. names_first g.O.Worded.wording (lines_of c.args.text.now) c.in-Err.error (c.in-Err.ensures.refused own)

pub returns-in-Err-clause-unreadable : goal.returns-in-Err-clause-unreadable
returns-in-Err-clause-unreadable g c =
    λ own. unreadable_first g.O.Worded.wording (lines_of c.args.text.now) c.in-Err.error (c.in-Err.ensures.refused own)
