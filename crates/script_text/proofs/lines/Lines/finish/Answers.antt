use Rattle.std.proofs.Common.{◌∙◌, arith}
use Rattle.script_text.proofs.OptionLemmas.{IfNone-by, IfSome-by}
use Rattle.script_text.proofs.ReaderLemmas.{all_items-whole, none_spelled, one_spelled, last_items-none, last_items-item, last_items-unended}
use Rattle.script_text.proofs.lines.Lines.finish.Goals as goal

pub returns-then-line-eq0-clause-none : goal.returns-then-line-eq0-clause-none
returns-then-line-eq0-clause-none c = IfNone-by c.unended.result (λ none before at.
    all_items-whole _ _ before _ at ∙ last_items-none at.block at.line (omega (arith, at.kept.len_is)) ∙ none_spelled _ _ (c.unended.ensures.given at.block at.stands) none)

pub returns-then-line-eq0-clause-item : goal.returns-then-line-eq0-clause-item
returns-then-line-eq0-clause-item c = IfSome-by c.unended.result (λ item some before at.
    let one = one_spelled _ _ item (c.unended.ensures.given at.block at.stands) some in
    (one.0, one.1, all_items-whole _ _ before _ at ∙ last_items-none at.block at.line (omega (arith, at.kept.len_is)) ∙ one.2))

pub returns-in-Some-clause-item : goal.returns-in-Some-clause-item
returns-in-Some-clause-item c = λ before at.
    let after = c.after_line-place.ensures.after at.block at.line at.stands at.kept in
    let one = last_items-item at.block at.line _ _ c.in-Some.item (omega (arith, at.kept.len_is)) after c.in-Some.is in
    (one.0, one.1, all_items-whole _ _ before _ at ∙ one.2)

pub returns-clause-none : goal.returns-clause-none
returns-clause-none c = IfNone-by c.unended-in-None.result (λ none before at.
    let after = c.after_line-place.ensures.after at.block at.line at.stands at.kept in
    all_items-whole _ _ before _ at ∙ last_items-unended at.block at.line _ _ (omega (arith, at.kept.len_is)) after c.in-None.is ∙ none_spelled _ _ (c.unended-in-None.ensures.given _ after.stands) none)

pub returns-clause-item : goal.returns-clause-item
returns-clause-item c = IfSome-by c.unended-in-None.result (λ item some before at.
    let after = c.after_line-place.ensures.after at.block at.line at.stands at.kept in
    let one = one_spelled _ _ item (c.unended-in-None.ensures.given _ after.stands) some in
    (one.0, one.1, all_items-whole _ _ before _ at ∙ last_items-unended at.block at.line _ _ (omega (arith, at.kept.len_is)) after c.in-None.is ∙ one.2))
