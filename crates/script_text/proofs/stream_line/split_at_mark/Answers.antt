use Rattle.std.proofs.Common.{sym, ◌∙◌}
use Rattle.script_text.proofs.StreamLemmas.{parts_at-some, parts_at-none}
use Rattle.script_text.proofs.stream_line.split_at_mark.Goals as goal

pub returns-in-Some-clause-some : goal.returns-in-Some-clause-some
returns-in-Some-clause-some c = parts_at-some c.args.mark c.args.text.now c.in-Some.at (sym c.first_mark.ensures.place ∙ c.in-Some.is)

pub returns-in-None-clause-none : goal.returns-in-None-clause-none
returns-in-None-clause-none c = parts_at-none c.args.mark c.args.text.now (sym c.first_mark.ensures.place ∙ c.in-None.is)
