use Rattle.script_text.proofs.AnswerLemmas.{in_entry}
use Rattle.script_text.proofs.entry_line.append_entry.Goals as goal

pub returns-clause-ok : goal.returns-clause-ok
returns-clause-ok c =
    in_entry c.args.entry.now _ _ _ _ _ _ _ _ c.in_ok-append_number.ensures.ok c.in_ok-append_told.ensures.ok c.in_ok-append_told-2.ensures.ok c.in_ok-append_told-3.ensures.ok
    c.in_ok-append_told-4.ensures.ok c.in_ok-append_told-5.ensures.ok c.in_ok-push.ensures.items
