use Rattle.script_text.proofs.WholeLemmas.{items_are_whole, all_items_are_whole}
use Rattle.script_text.proofs.item.commands_are_whole.Goals as goal

pub returns-clause-front : goal.returns-clause-front
returns-clause-front c = items_are_whole

pub returns-clause-all : goal.returns-clause-all
returns-clause-all c = all_items_are_whole
