use Rattle.plan_core.specs.PlainPlan.{plan_of}
use Rattle.rewrite_core.specs.PlainRewriting.{Change, NewRows}
use Rattle.rewriter.proofs.LeastParts as law
use Rattle.rewriter.proofs.prices.price_of_new_rows.Goals as goal

pub returns : goal.returns
returns g c = λ entries scan longer. record {
  of = Change (plan_of c.args.stretch.plan.now) c.args.stretch.old.now c.args.stretch.new.now NewRows;
  least = law.delta_scan entries (g.Z.Sizes.lengths c.args.sizes.now) (plan_of c.args.stretch.plan.now) c.args.stretch.old.now c.args.stretch.new.now scan longer;
  estimate = c.new_bytes-bytes.ensures;
  bytes = c.new_bytes-bytes.ensures;
}
