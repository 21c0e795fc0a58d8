use Rattle.std.proofs.Common.{rules, arith}
use Rattle.catalog_page.proofs.Written.{rows_start, result_rows_more, result_rows_end}
use Rattle.catalog_page.proofs.result_rows.put_results.Goals as goal

pub loop-kept-init : goal.loop-kept-init
loop-kept-init c = record { rows = rows_start _; counted = search rules }

pub loop-kept-preserved : goal.loop-kept-preserved
loop-kept-preserved c =
    let same = c.deref-kept-items.ensures.value in
    record {
      rows = result_rows_more _ _ _ _ _ _ _ _ _ _ (rw same at c.loop-kept-test.true) (rw same at c.kept-item.is) c.loop-kept.invariant.counted c.loop-kept.invariant.rows c.in_ok-put_result.ensures;
      counted = omega arith;
    }

pub returns : goal.returns
returns c =
    let same = c.deref-kept-items.ensures.value in
    result_rows_end _ _ _ _ _ _ _ (rw same at c.loop-kept-test.false) c.loop-kept.invariant.rows
