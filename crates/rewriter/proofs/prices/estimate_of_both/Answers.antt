use Rattle.std.proofs.Common.{sym, ap, ◌∙◌}
use Rattle.estimator.specs.Bytes.{capped}
use Rattle.plan_core.specs.PlainPlan.{plan_of}
use Rattle.rewrite_core.specs.PlainRewriting.{Node, BothGrew}
use Rattle.rewriter.proofs.Choices.{least_there}
use Rattle.rewriter.proofs.prices.estimate_of_both.Goals as goal

pub returns : goal.returns
returns c = λ entries lengths q cuts b by before behind.
    let l = rw c.in-Some-Some.is-0 at before in
    let r = rw c.in-Some-Some.is-1 at behind in
    record {
      of = Node q cuts (BothGrew c.args.hit.now l.best.of l.delta.of r.delta.of r.best.of);
      least = by.makes l.best.of l.delta.of r.delta.of r.best.of (least_there entries lengths (plan_of b.old_left.plan.now) b.old_left.cuts.now c.in-Some-Some.before.best l.best) l.delta.least r.delta.least
          (least_there entries lengths (plan_of b.right.plan.now) b.right.cuts.now c.in-Some-Some.behind.best r.best);
      estimate = c.plus-3.ensures _ _ (c.plus-2.ensures _ _ (c.plus-deltas.ensures _ _ (c.plus.ensures _ _ (c.plus-lefts.ensures _ _ c.file_len.ensures l.best.estimate) l.delta.estimate) r.delta.estimate) r.best.estimate)
          (c.plus-bytes.ensures _ _ r.delta.bytes l.delta.bytes ∙ ap capped (sym by.bytes));
    }
