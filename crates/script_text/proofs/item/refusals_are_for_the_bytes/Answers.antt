use Rattle.script_text.proofs.WholeLemmas.{items_refused, all_items_refused}
use Rattle.script_text.proofs.item.refusals_are_for_the_bytes.Goals as goal

pub returns-clause-front : goal.returns-clause-front
returns-clause-front c = items_refused

pub returns-clause-all : goal.returns-clause-all
returns-clause-all c = all_items_refused
