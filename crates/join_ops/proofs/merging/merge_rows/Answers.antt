use Rattle.std.proofs.Common.{rules, subst, IsPermutation}
use Rattle.std.specs.List.Sorted.{IsStableBy}
use Rattle.std.proofs.lemmas.Fn.{always_returns_same}
use Rattle.plan_laws.specs.GrowthOfJoins.{is_earlier}
use Rattle.plan_laws.proofs.TaggedMerge.{earlier_weak}
use Rattle.join_ops.proofs.merging.merge_rows.Goals as goal

pub returns : goal.returns
returns c =
    let compares = always_returns_same _ _ _ (λ a r q k. search rules) in
    c.one_merge_by_position.ensures.only c.args.old.items c.args.new.items _ c.requires.old c.requires.new (record {
      permutation = subst (λ l. IsPermutation l c.sort_by.new.self.items) c.in_ok-append.ensures.items c.sort_by.ensures.permutation;
      ascends = c.in_ok-sort_by.ensures.sorted is_earlier earlier_weak compares;
      stable = subst (λ l. IsStableBy is_earlier l c.sort_by.new.self.items) c.in_ok-append.ensures.items (c.sort_by.ensures.stable is_earlier earlier_weak compares);
    })
