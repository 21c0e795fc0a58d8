use Rattle.std.proofs.Common.{ap, ◌∙◌}
use Rattle.std.specs.List.{find}
use Rattle.plan_text.specs.Canonical.{is_mark_of}
use Rattle.plan_text.proofs.rule.mark_of.Goals as goal

pub returns : goal.returns
returns c = c.first_mark.ensures ∙ ap (find (is_mark_of c.args.op)) c.as_slice.ensures
