use Rattle.std.proofs.Common.{◌≡◌, ◌+◌, ◌∙◌, refl, subst, ℕ, suc, arith}
use Rattle.indexmap.specs.Layout.{set_value_at, length-set_value_at}
use Rattle.cache_index.specs.Lists.{HasPlaces}
use Rattle.cache_index.proofs.Growing.{FirstHave, same-self, same-set, first-set, same-ids, all-have}
use Rattle.cache_index.proofs.lists.reserve_each.Goals as goal

pub loop-place-init : goal.loop-place-init
loop-place-init c = record {
  same = same-self c.args.lists.now.entries;
  many = refl;
  first = tt;
  spare = refl;
}

pub returns-in_err-reserve-clause-same : goal.returns-in_err-reserve-clause-same
returns-in_err-reserve-clause-same c digest =
    let l = c.loop-place in
    same-ids digest c.args.lists.now.entries (set_value_at l.lists.entries l.place c.reserve.new.self)
    (same-set c.args.lists.now.entries l.lists.entries l.place c.index_mut.result.now c.reserve.new.self l.invariant.same c.index_mut.ensures.value c.reserve.ensures.items)

pub loop-place-preserved : goal.loop-place-preserved
loop-place-preserved c =
    let l = c.loop-place in
    let w = c.reserve.new.self in
    let has : HasPlaces c.args.more w = omega (arith, c.in_ok-reserve.ensures.ok, w.ok.0) in
    let next : suc l.place ≡ l.place + 1 = omega arith in
    record {
      same = same-set c.args.lists.now.entries l.lists.entries l.place c.index_mut.result.now w l.invariant.same c.index_mut.ensures.value c.reserve.ensures.items;
      many = length-set_value_at l.lists.entries l.place w ∙ l.invariant.many;
      first = subst (λ (n : ℕ). FirstHave c.args.more n (set_value_at l.lists.entries l.place w)) next (first-set c.args.more l.place l.lists.entries w l.invariant.first has);
      spare = l.invariant.spare;
    }

pub returns-clause-same : goal.returns-clause-same
returns-clause-same c digest = same-ids digest c.args.lists.now.entries c.loop-place.lists.entries c.loop-place.invariant.same

pub returns-clause-room : goal.returns-clause-room
returns-clause-room c digest =
    let l = c.loop-place in
    all-have c.args.more l.place l.lists.entries digest (omega (arith, c.loop-place-test.false, l.invariant.many, c.len-place-end.ensures.len)) l.invariant.first
