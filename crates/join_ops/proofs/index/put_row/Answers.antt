use Rattle.std.proofs.Common.{ap, ◌∙◌, cond, Some, rules}
use Rattle.indexmap.specs.IndexMap.{get}
use Rattle.join_ops.specs.RowsByKey.{same_key}
use Rattle.join_ops.proofs.Keys.{one_more, pushed, alone}
use Rattle.join_ops.proofs.index.put_row.Goals as goal

pub returns-in-Some : goal.returns-in-Some
returns-in-Some c =
    one_more c.args.index.now (c.get_mut.follows.lender c.push.new.self) c.args.key c.push.new.self c.args.row.now ((c.get_mut.follows.holds c.push.new.self).3 (search rules)).0
    (pushed c.args.index.now c.args.key c.in-Some.rows.now c.push.new.self c.args.row c.in-Some.ensures.value c.in_ok-push.ensures.items)

pub returns : goal.returns
returns c =
    one_more c.args.index.now c.insert.new.self c.args.key c.push-2.new.self c.args.row.now
    (λ q. c.in_ok-insert.ensures.updates.0 q ∙ ap (λ m. cond (same_key c.args.key q) (Some c.push-2.new.self) (get same_key m q)) c.get_mut.follows.holds-at-none)
    (alone c.args.index.now c.args.key c.new-rows.result c.push-2.new.self c.args.row c.in_default.ensures.value c.new-rows.ensures.items c.in_ok-push-2.ensures.items)
