-- An append that failed changed nothing before what it added, and lacked room.
use Rattle.std.proofs.Common.{◌+◌, ◌<◌, length, take, vec_len, vec_capacity, arith, ap, length-append}
use Rattle.std.specs.List.{flat_map}
use Rattle.row_text.specs.RowSpelling.{byte_spelling}
use Rattle.row_text.proofs.Appending.{start-longer, OnErr-always, length-flat_map-front}
use Rattle.row_text.proofs.print.append_text_bytes.Goals as goal

pub returns-in_err-append_text_byte-clause-start : goal.returns-in_err-append_text_byte-clause-start
returns-in_err-append_text_byte-clause-start c =
    start-longer _ _ _ _ _ _ c.append_text_byte.ensures.start c.loop-byte.invariant.items c.args.to.now.ok.0

pub returns-in_err-append_text_byte-clause-full : goal.returns-in_err-append_text_byte-clause-full
returns-in_err-append_text_byte-clause-full c =
    let front = length-flat_map-front byte_spelling c.args.text.now c.loop-byte.byte-index 0 (omega arith) in
    let so_far = ap length c.loop-byte.invariant.items in
    let parts = length-append c.args.to.now.items (flat_map byte_spelling (take c.loop-byte.byte-index c.args.text.now)) in
    let lacking : vec_capacity c.args.to.now < vec_len c.args.to.now + length (flat_map byte_spelling c.args.text.now) =
    omega (arith, front, c.in_err-append_text_byte.ensures.full, c.loop-byte.invariant.capacity, c.loop-byte.to.ok.0, c.args.to.now.ok.0, so_far, parts) in
    OnErr-always _ lacking
