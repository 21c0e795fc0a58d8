use Rattle.std.proofs.Common.{rules, subst, ◌∙◌, IsPermutation}
use Rattle.std.specs.List.Sorted.{IsStableBy}
use Rattle.std.proofs.lemmas.Fn.{always_returns_same}
use Rattle.plan_laws.proofs.Insertion.{below, weak}
use Rattle.plan_evaluator.proofs.operators.order_rows.Goals as goal

pub returns : goal.returns
returns c =
    let compares = always_returns_same _ _ _ (λ a r q k. search rules) in
    let order = weak c.args.keys.now (c.total_order.ensures c.args.keys.now) in
    c.new.ensures ∙ c.one_stable_order.ensures.only c.args.keys.now c.args.rows.now _ (record {
      permutation = subst (λ l. IsPermutation l c.sort_by.new.self.items) c.in_ok-ordered.ensures c.sort_by.ensures.permutation;
      ascends = c.in_ok-sort_by.ensures.sorted (below c.args.keys.now) order compares;
      stable = subst (λ l. IsStableBy (below c.args.keys.now) l c.sort_by.new.self.items) c.in_ok-ordered.ensures (c.sort_by.ensures.stable (below c.args.keys.now) order compares);
    })
