use Rattle.std.proofs.Common.{◌≡◌, ◌≤◌, ◌++◌, ◌∙◌, [], sym, subst, length, length-append, arith}
use Rattle.plan_laws.specs.GroupBounds.{AreGroups, HaveAverages}
use Rattle.cases_operators.proofs.fed.grouped.Goals as goal

pub finish-requires-clause-bounds : goal.finish-requires-clause-bounds
finish-requires-clause-bounds c =
    let old = c.args.old.now in
    let few : length (old ++ c.args.new.now) ≤ 4294967295 = omega (arith, length-append old c.args.new.now, c.requires) in
    subst (AreGroups c.items-aggs.result.now) (sym (c.deref.ensures.value ∙ c.in_ok-into_groups.ensures))
    (c.in_ok-feed-2.ensures.bounds old (c.in_ok-feed.ensures.joined [] c.new-groups.ensures.empty) (c.in_ok-feed.ensures.numbers [] tt) few)

pub finish-requires-clause-averages : goal.finish-requires-clause-averages
finish-requires-clause-averages c =
    let old = c.args.old.now in
    let few : length (old ++ c.args.new.now) ≤ 4294967295 = omega (arith, length-append old c.args.new.now, c.requires) in
    subst HaveAverages (sym (c.deref.ensures.value ∙ c.in_ok-into_groups.ensures))
    (c.in_ok-feed-2.ensures.averages old (c.in_ok-feed.ensures.joined [] c.new-groups.ensures.empty) (c.in_ok-feed.ensures.numbers [] tt) few)
