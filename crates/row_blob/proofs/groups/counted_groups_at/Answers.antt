-- One item more at each turn.
use Rattle.std.proofs.Common.{◌≡◌, [], ◌∷◌, ◌++◌, Ok, ap, sym, subst, ◌∙◌}
use Rattle.std.proofs.lemmas.Result.{err_from_is_err_and}
use Rattle.std.proofs.lemmas.List.{map_push}
use Rattle.byte_formats.specs.Reading.{Fails}
use Rattle.row_blob.specs.Reading.{group_at, items_at, group_after}
use Rattle.row_blob.specs.Kept.{keys_of}
use Rattle.row_blob.proofs.Loop.{goes_on, ends}
use Rattle.row_blob.proofs.groups.counted_groups_at.Goals as goal

pub returns-in_err-group : goal.returns-in_err-group
returns-in_err-group c =
    let p = err_from_is_err_and c.from_residual.result c.from_residual.ensures.1 in
    rw (p.1, p.2) (ends (group_after c.args.keys.now c.args.kinds.now) c.in_err-group.field-0.0 c.args.count c.loop.counter c.loop.groups.items c.loop.rest.now (items_at (group_after c.args.keys.now c.args.kinds.now) c.args.count [] c.args.bytes.now) c.loop-test.true (subst (λ keys. Fails c.in_err-group.field-0.0 (group_at c.args.keys.now c.args.kinds.now keys c.loop.rest.now)) c.loop.invariant.seen c.in_err-group.ensures.read) c.loop.invariant.read)

pub loop-preserved : goal.loop-preserved
loop-preserved c =
    let e = c.in_ok-push.ensures.items in
    let read = subst (λ keys. group_at c.args.keys.now c.args.kinds.now keys c.loop.rest.now ≡ Ok (c.in_ok-group.group, c.in_ok-group.after.now)) c.loop.invariant.seen c.in_ok-group.ensures.read in
    record {
      seen = c.in_ok-group.ensures.seen ∙ ap (λ keys. keys ++ c.in_ok-group.group.key ∷ []) c.loop.invariant.seen ∙ sym (ap keys_of e ∙ map_push (λ group. group.key) c.loop.groups.items c.in_ok-group.group);
      read = rw e (goes_on (group_after c.args.keys.now c.args.kinds.now) c.args.count c.loop.counter c.loop.groups.items c.loop.rest.now c.in_ok-group.group c.in_ok-group.after.now (items_at (group_after c.args.keys.now c.args.kinds.now) c.args.count [] c.args.bytes.now) c.loop-test.true read c.loop.invariant.read);
    }
