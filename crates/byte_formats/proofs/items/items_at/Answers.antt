-- One item more at each turn.
use Rattle.std.proofs.Common.{Ok, Err}
use Rattle.std.proofs.lemmas.Result.{err_from_is_err_and}
use Rattle.byte_formats.proofs.Loop.{read_start, read_more, read_end, read_fails}
use Rattle.byte_formats.proofs.items.items_at.Goals as goal

pub loop-init : goal.loop-init
loop-init g c = λ read told. rw c.new-items.ensures.items (read_start read c.args.count c.args.bytes.now)

pub returns-in_err-next : goal.returns-in_err-next
returns-in_err-next g c = λ read told.
    let p = err_from_is_err_and c.from_residual.result c.from_residual.ensures.1 in
    rw (p.1, p.2)
    (read_fails read c.in_err-next.field-0.0 c.args.count c.loop.counter c.loop.items.items c.loop.rest.now c.args.bytes.now c.loop-test.true
    (told c.loop.rest (Err c.in_err-next.field-0.0) c.in_err-next.ensures) (c.loop.invariant read told))

pub loop-preserved : goal.loop-preserved
loop-preserved g c = λ read told.
    let one = told c.loop.rest (Ok (c.in_ok-next.next, c.in_ok-next.after)) c.in_ok-next.ensures in
    rw c.in_ok-push.ensures.items (read_more read c.args.count c.loop.counter c.loop.items.items c.loop.rest.now c.in_ok-next.next c.in_ok-next.after.now c.args.bytes.now c.loop-test.true one (c.loop.invariant read told))

pub returns : goal.returns
returns g c = λ read told. read_end read c.args.count c.loop.counter c.loop.items.items c.loop.rest.now c.args.bytes.now c.loop-test.false (c.loop.invariant read told)
