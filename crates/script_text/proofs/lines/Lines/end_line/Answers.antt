use Rattle.std.proofs.Common.{rules}
use Rattle.script_text.proofs.OptionLemmas.{IfNone-by, IfSome-by}
use Rattle.script_text.proofs.ReaderLemmas.{StandsAt-end, Completes-end}
use Rattle.script_text.proofs.lines.Lines.end_line.Goals as goal

pub returns-clause-stands : goal.returns-clause-stands
returns-clause-stands c = IfNone-by c.after_line-place.result.1 (λ none before stood.
    StandsAt-end _ _ c.after_line-place.result.0 _ _ before c.args.rest.now _ _ (search rules) (c.push.ensures before stood) _ c.after_line-place.ensures.after c.clear.ensures none)

pub returns-clause-item : goal.returns-clause-item
returns-clause-item c = IfSome-by c.after_line-place.result.1 (λ item some before stood.
    Completes-end _ _ c.after_line-place.result.0 _ _ before c.args.rest.now _ _ (search rules) (c.push.ensures before stood) _ item c.after_line-place.ensures.after c.clear.ensures some)
