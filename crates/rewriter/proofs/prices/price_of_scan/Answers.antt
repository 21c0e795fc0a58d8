use Rattle.plan_core.specs.PlainPlan.{plan_of}
use Rattle.rewrite_core.specs.PlainRewriting.{Node, Scan}
use Rattle.rewriter.proofs.LeastParts as law
use Rattle.rewriter.proofs.prices.price_of_scan.Goals as goal

pub returns : goal.returns
returns g c = λ entries scan. record {
  estimate = record {
    of = Node (plan_of c.args.part.plan.now) c.args.part.cuts.now Scan;
    least = law.computed_scan entries (g.Z.Sizes.lengths c.args.sizes.now) (plan_of c.args.part.plan.now) c.args.part.cuts.now scan;
    estimate = c.whole_bytes-bytes.ensures;
  };
  bytes = c.whole_bytes-bytes.ensures;
}
