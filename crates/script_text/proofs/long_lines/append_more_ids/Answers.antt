-- An append that failed changed nothing before what it added, and lacked room.
use Rattle.std.proofs.Common.{◌∷◌, ◌+◌, ◌<◌, decimal, length, take, vec_len, vec_capacity, arith, ap, length-append}
use Rattle.std.specs.List.{flat_map}
use Rattle.row_text.proofs.Appending.{start-longer, OnErr-always, length-flat_map-front}
use Rattle.script_text.proofs.long_lines.append_more_ids.Goals as goal

pub returns-in_err-append_next_id-clause-start : goal.returns-in_err-append_next_id-clause-start
returns-in_err-append_next_id-clause-start c =
    start-longer _ _ _ _ _ _ c.append_next_id.ensures.start c.loop-id.invariant.items c.args.to.now.ok.0

pub returns-in_err-append_next_id-clause-full : goal.returns-in_err-append_next_id-clause-full
returns-in_err-append_next_id-clause-full c =
    let front = length-flat_map-front (λ id. 32 ∷ decimal id) c.args.ids.now c.loop-id.id-index 0 (omega arith) in
    let so_far = ap length c.loop-id.invariant.items in
    let parts = length-append c.args.to.now.items (flat_map (λ id. 32 ∷ decimal id) (take c.loop-id.id-index c.args.ids.now)) in
    let lacking : vec_capacity c.args.to.now < vec_len c.args.to.now + length (flat_map (λ id. 32 ∷ decimal id) c.args.ids.now) =
    omega (arith, front, c.in_err-append_next_id.ensures.full, c.loop-id.invariant.capacity, c.loop-id.to.ok.0, c.args.to.now.ok.0, so_far, parts) in
    OnErr-always _ lacking
