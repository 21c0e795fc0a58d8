use Rattle.script_text.proofs.AnswerLemmas.{in_parts}
use Rattle.script_text.proofs.file_lines.append_damage.Goals as goal

pub returns-clause-printed : goal.returns-clause-printed
returns-clause-printed c =
    in_parts _ _ _ _ _ _ _ _ _ _ c.in_ok-try_reserve.ensures.items c.in_ok-extend_from_slice.ensures.items c.in_ok-append_ended.ensures.printed c.in_ok-append_ended-2.ensures.printed c.in_ok-append_ended-3.ensures.printed
