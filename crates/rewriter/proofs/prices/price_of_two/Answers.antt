use Rattle.std.proofs.Common.{sym, ap, ◌∙◌}
use Rattle.estimator.specs.Bytes.{capped}
use Rattle.plan_core.specs.PlainPlan.{plan_of}
use Rattle.rewrite_core.specs.PlainRewriting.{Node, Two}
use Rattle.rewriter.proofs.Choices.{least_there}
use Rattle.rewriter.proofs.prices.price_of_two.Goals as goal

pub returns : goal.returns
returns c = λ entries lengths q cuts x y by l r.
    let bytes = c.plus-bytes.ensures _ _ l.bytes r.bytes ∙ ap capped (sym by.bytes) in
    record {
      estimate = record {
        of = Node q cuts (Two l.of r.of);
        least = by.makes l.of r.of (least_there entries lengths (plan_of x.plan.now) x.cuts.now c.args.left l) (least_there entries lengths (plan_of y.plan.now) y.cuts.now c.args.right r);
        estimate = c.plus.ensures _ _ (c.plus-inputs.ensures _ _ l.estimate r.estimate) bytes;
      };
      bytes = bytes;
    }
