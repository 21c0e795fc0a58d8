use Rattle.std.proofs.Common.{rules}
use Rattle.std.proofs.lemmas.Fn.{always_returns_same}
use Rattle.plan_laws.proofs.Insertion.{below, weak}
use Rattle.row_ops.proofs.order.order_rows.Goals as goal

pub returns : goal.returns
returns c =
    let compares = always_returns_same _ _ _ (λ a r q k. search rules) in
    let order = weak c.args.keys.now (c.total_order.ensures c.args.keys.now) in
    c.one_stable_order.ensures.only c.args.keys.now c.args.rows.items _ (record {
      permutation = c.sort_by.ensures.permutation;
      ascends = c.in_ok-sort_by.ensures.sorted (below c.args.keys.now) order compares;
      stable = c.sort_by.ensures.stable (below c.args.keys.now) order compares;
    })
