-- One item more at each turn.
use Rattle.std.proofs.Common.{[]}
use Rattle.std.proofs.lemmas.Result.{err_from_is_err_and}
use Rattle.row_blob.specs.Reading.{items_at, row_at}
use Rattle.row_blob.proofs.Loop.{goes_on, ends}
use Rattle.row_blob.proofs.rows.counted_rows_at.Goals as goal

pub returns-in_err-row : goal.returns-in_err-row
returns-in_err-row c =
    let p = err_from_is_err_and c.from_residual.result c.from_residual.ensures.1 in
    rw (p.1, p.2) (ends (λ before. row_at c.args.kinds.now) c.in_err-row.field-0.0 c.args.count c.loop.counter c.loop.rows.items c.loop.rest.now (items_at (λ before. row_at c.args.kinds.now) c.args.count [] c.args.bytes.now) c.loop-test.true c.in_err-row.ensures c.loop.invariant)

pub loop-preserved : goal.loop-preserved
loop-preserved c =
    rw c.in_ok-push.ensures.items (goes_on (λ before. row_at c.args.kinds.now) c.args.count c.loop.counter c.loop.rows.items c.loop.rest.now c.in_ok-row.row c.in_ok-row.after.now (items_at (λ before. row_at c.args.kinds.now) c.args.count [] c.args.bytes.now) c.loop-test.true c.in_ok-row.ensures c.loop.invariant)
