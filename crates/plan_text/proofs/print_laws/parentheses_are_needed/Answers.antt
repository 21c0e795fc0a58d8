use Rattle.plan_text.proofs.NeededParens.{needed}
use Rattle.plan_text.proofs.print_laws.parentheses_are_needed.Goals as goal

pub returns : goal.returns
returns c rule levels e from rest less s = needed s less
