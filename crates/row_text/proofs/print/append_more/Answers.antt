-- An append that failed changed nothing before what it added, and lacked room.
use Rattle.std.proofs.Common.{◌∷◌, ◌+◌, ◌<◌, length, take, vec_len, vec_capacity, arith, ap, length-append}
use Rattle.row_text.specs.RowSpelling.{value_spelling, more_spelling}
use Rattle.row_text.proofs.Appending.{start-longer, OnErr-always, length-flat_map-front}
use Rattle.row_text.proofs.print.append_more.Goals as goal

pub returns-in_err-append_next-clause-start : goal.returns-in_err-append_next-clause-start
returns-in_err-append_next-clause-start c =
    start-longer _ _ _ _ _ _ c.append_next.ensures.start c.loop-value.invariant.items c.args.to.now.ok.0

pub returns-in_err-append_next-clause-full : goal.returns-in_err-append_next-clause-full
returns-in_err-append_next-clause-full c =
    let front = length-flat_map-front (λ value. 44 ∷ value_spelling value) c.args.values.now c.loop-value.value-index c.value-item.result (omega arith) in
    let next = rw (← c.value-item.is) at front in
    let so_far = ap length c.loop-value.invariant.items in
    let parts = length-append c.args.to.now.items (more_spelling (take c.loop-value.value-index c.args.values.now)) in
    let lacking : vec_capacity c.args.to.now < vec_len c.args.to.now + length (more_spelling c.args.values.now) =
    omega (arith, next, c.in_err-append_next.ensures.full, c.loop-value.invariant.capacity, c.loop-value.to.ok.0, c.args.to.now.ok.0, so_far, parts) in
    OnErr-always _ lacking
