use Rattle.std.proofs.Common.{◌≡◌, true, false, is_some, codes, ◌∙◌, rules}
use Rattle.script_text.specs.Words.{is_empty_or_remark, behind_word}
use Rattle.script_text.specs.declared.place.Place.TheVariants as place
use Rattle.script_text.proofs.BlockLemmas.{AfterLine-begun, AfterLine-command, begins_block-kept, is_skipped-kept}
use Rattle.script_text.proofs.place.after_outside.Goals as goal

pub returns-in-Some-clause-after : goal.returns-in-Some-clause-after
returns-in-Some-clause-after c = λ bytes held.
    let some : is_some (behind_word (codes "append") c.args.line.now.text.items) ≡ true = search rules in
    AfterLine-begun bytes (place.Block c.new.result) (begins_block-kept _ bytes _ held ∙ some) (c.new.ensures bytes held)

pub returns-in-None-clause-after : goal.returns-in-None-clause-after
returns-in-None-clause-after c = λ bytes held.
    let none : is_some (behind_word (codes "append") c.args.line.now.text.items) ≡ false = search rules in
    let read : is_empty_or_remark c.args.line.now.text.items ≡ false = search rules in
    AfterLine-command bytes c.command_item.result (is_skipped-kept _ bytes _ held ∙ read) (begins_block-kept _ bytes _ held ∙ none) (c.command_item.ensures.given bytes held)
