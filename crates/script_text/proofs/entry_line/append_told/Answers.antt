use Rattle.row_text.proofs.Appending.{start-longer}
use Rattle.script_text.proofs.AnswerLemmas.{between_spaces}
use Rattle.script_text.proofs.entry_line.append_told.Goals as goal

pub returns-clause-start : goal.returns-clause-start
returns-clause-start c =
    start-longer _ _ _ _ _ _ c.append_number.ensures.start
    (between_spaces _ c.args.word.now _ _ _ c.in_ok-push.ensures.items c.in_ok-extend_from_slice.ensures.items c.in_ok-push-2.ensures.items)
    c.args.to.now.ok.0
