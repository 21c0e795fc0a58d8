-- One item more at each turn.
use Rattle.std.proofs.Common.{◌≡◌, [], Ok, subst}
use Rattle.std.proofs.lemmas.Result.{err_from_is_err_and}
use Rattle.byte_formats.specs.Reading.{Fails}
use Rattle.row_blob.specs.Reading.{items_at, tagged_at}
use Rattle.row_blob.proofs.Loop.{goes_on, ends}
use Rattle.row_blob.proofs.tagged.counted_tagged_at.Goals as goal

pub returns-in_err-row : goal.returns-in_err-row
returns-in_err-row c =
    let p = err_from_is_err_and c.from_residual.result c.from_residual.ensures.1 in
    rw (p.1, p.2) (ends (tagged_at c.args.left c.args.kinds.now) c.in_err-row.field-0.0 c.args.count c.loop.counter c.loop.rows.items c.loop.rest.now (items_at (tagged_at c.args.left c.args.kinds.now) c.args.count [] c.args.bytes.now) c.loop-test.true (subst (λ before. Fails c.in_err-row.field-0.0 (tagged_at c.args.left c.args.kinds.now before c.loop.rest.now)) c.deref.ensures.value c.in_err-row.ensures) c.loop.invariant)

pub loop-preserved : goal.loop-preserved
loop-preserved c =
    rw c.in_ok-push.ensures.items (goes_on (tagged_at c.args.left c.args.kinds.now) c.args.count c.loop.counter c.loop.rows.items c.loop.rest.now c.in_ok-row.row c.in_ok-row.after.now (items_at (tagged_at c.args.left c.args.kinds.now) c.args.count [] c.args.bytes.now) c.loop-test.true (subst (λ before. tagged_at c.args.left c.args.kinds.now before c.loop.rest.now ≡ Ok (c.in_ok-row.row, c.in_ok-row.after.now)) c.deref.ensures.value c.in_ok-row.ensures) c.loop.invariant)
