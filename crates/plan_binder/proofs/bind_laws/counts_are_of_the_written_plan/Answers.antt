-- By cases on the tree.
use Rattle.plan_binder.proofs.BoundCounts.{plan_counts, counts_within}
use Rattle.plan_binder.proofs.bind_laws.counts_are_of_the_written_plan.Goals as goal

pub returns : goal.returns
returns c = record {
  nodes = λ streams schemas tree plan is. (plan_counts streams schemas tree plan is).0;
  exprs = λ streams schemas tree plan is. (plan_counts streams schemas tree plan is).1;
  limits = counts_within;
}
