use Rattle.std.proofs.Common.{sym, ap, ◌∙◌}
use Rattle.estimator.specs.Bytes.{capped}
use Rattle.plan_core.specs.PlainPlan.{plan_of}
use Rattle.rewrite_core.specs.PlainRewriting.{Node, LeftGrew, RightGrew}
use Rattle.rewriter.proofs.Choices.{least_there}
use Rattle.rewriter.proofs.PartBytes.{swapped}
use Rattle.rewriter.proofs.prices.estimate_of_pair.Goals as goal

pub returns-in-None-clause-left : goal.returns-in-None-clause-left
returns-in-None-clause-left c = λ entries lengths q cuts s p by pair. by.none (rw c.in-None.is at pair)

pub returns-in-None-clause-right : goal.returns-in-None-clause-right
returns-in-None-clause-right c = λ entries lengths q cuts s p by pair. by.none (rw c.in-None.is at pair)

pub returns-in-Some-clause-left : goal.returns-in-Some-clause-left
returns-in-Some-clause-left c = λ entries lengths q cuts s p by pair.
    let l = rw c.in-Some.is at pair in
    record {
      of = Node q cuts (LeftGrew c.args.hit.now l.delta.of l.best.of);
      least = by.makes l.delta.of l.best.of l.delta.least (least_there entries lengths (plan_of p.plan.now) p.cuts.now c.in-Some.pair.best l.best);
      estimate = c.plus-in-Some.ensures _ _ (c.plus-parts.ensures _ _ (c.plus.ensures _ _ c.file_len.ensures l.delta.estimate) l.best.estimate) (l.delta.bytes ∙ ap capped (sym by.bytes));
    }

pub returns-in-Some-clause-right : goal.returns-in-Some-clause-right
returns-in-Some-clause-right c = λ entries lengths q cuts s p by pair.
    let l = rw c.in-Some.is at pair in
    record {
      of = Node q cuts (RightGrew c.args.hit.now l.best.of l.delta.of);
      least = by.makes l.delta.of l.best.of l.delta.least (least_there entries lengths (plan_of p.plan.now) p.cuts.now c.in-Some.pair.best l.best);
      estimate = c.plus-in-Some.ensures _ _ (c.plus-parts.ensures _ _ (c.plus.ensures _ _ c.file_len.ensures l.delta.estimate) l.best.estimate) (l.delta.bytes ∙ ap capped (sym by.bytes)) ∙ ap capped (swapped c.args.hit.now.len _ _ _);
    }
