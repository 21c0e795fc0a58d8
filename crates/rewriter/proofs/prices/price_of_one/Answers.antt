use Rattle.std.proofs.Common.{sym, ap, ◌∙◌}
use Rattle.estimator.specs.Bytes.{capped}
use Rattle.plan_core.specs.PlainPlan.{plan_of}
use Rattle.rewrite_core.specs.PlainRewriting.{Node, One}
use Rattle.rewriter.proofs.Choices.{least_there}
use Rattle.rewriter.proofs.prices.price_of_one.Goals as goal

pub returns : goal.returns
returns c = λ entries lengths q cuts p by best.
    let bytes = best.bytes ∙ ap capped (sym by.bytes) in
    record {
      estimate = record {
        of = Node q cuts (One best.of);
        least = by.makes best.of (least_there entries lengths (plan_of p.plan.now) p.cuts.now c.args.best best);
        estimate = c.plus.ensures _ _ best.estimate bytes;
      };
      bytes = bytes;
    }
