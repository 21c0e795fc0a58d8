use Rattle.std.proofs.Common.{rules, arith, ap, ◌∙◌, ◌+ℤ◌, w64, to_z}
use Rattle.std.specs.Int.{w128}
use Rattle.std.proofs.lemmas.Int.{ints, to_z-of_z}
use Rattle.plan_evaluator.proofs.Loops.{sum_more}
use Rattle.plan_evaluator.proofs.aggregate.exact_sum.Goals as goal

pub loop-row-preserved : goal.loop-row-preserved
loop-row-preserved c = record {
  sum = sum_more c.args.column c.args.rows.now (to_z w128 c.loop-row.sum-bits) _ c.number_at.result c.row-item.result c.loop-row.row-index (search rules) c.row-item.is c.loop-row.invariant.sum c.number_at.ensures.number
      (to_z-of_z w128 c.added-sum.result (search rules) ∙ c.added-sum.ensures ∙ ap (λ n. to_z w128 c.loop-row.sum-bits +ℤ n) (to_z-of_z w64 c.number_at.result (search rules)));
  least = let a = c.loop-row.invariant.least in let b = c.number_at.ensures.least in let d = c.added-sum.ensures in omega (arith, ints, a, b, d);
  most = let a = c.loop-row.invariant.most in let b = c.number_at.ensures.most in let d = c.added-sum.ensures in omega (arith, ints, a, b, d);
}
