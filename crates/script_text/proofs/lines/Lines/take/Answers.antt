use Rattle.std.proofs.Common.{sym, ◌∙◌, arith}
use Rattle.script_text.proofs.OptionLemmas.{IfSome-by, at_none, at_some, none_from_test}
use Rattle.script_text.proofs.TakeLemmas.{quiet-more, TakesSoFar-more, Completes-more}
use Rattle.script_text.proofs.lines.Lines.take.Goals as goal

pub returns-then-is_some-clause-item : goal.returns-then-is_some-clause-item
returns-then-is_some-clause-item c = IfSome-by c.take_line-count.result.1 (λ item some.
    Completes-more _ _ c.args.bytes.now c.loop-taken.taken c.take_line-count.result.0 c.loop-taken.invariant c.take_line-count.new.self item (at_some _ _ item c.take_line-count.ensures.item some))

pub returns-then-is_some-clause-first : goal.returns-then-is_some-clause-first
returns-then-is_some-clause-first c = IfSome-by c.take_line-count.result.1 (λ item some.
    quiet-more _ _ c.args.bytes.now c.loop-taken.taken c.take_line-count.result.0 c.loop-taken.invariant c.take_line-count.ensures.first)

pub loop-taken-preserved : goal.loop-taken-preserved
loop-taken-preserved c =
    TakesSoFar-more _ _ c.args.bytes.now c.loop-taken.taken c.take_line-count.result.0 c.loop-taken.invariant c.take_line-count.new.self (omega (arith, c.take_line-count.ensures.bound)) (at_none _ _ c.take_line-count.ensures.stands (none_from_test _ (sym c.is_some.ensures ∙ c.if-is_some.false))) c.take_line-count.ensures.first
