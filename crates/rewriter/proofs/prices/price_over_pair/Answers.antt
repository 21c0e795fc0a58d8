use Rattle.std.proofs.Common.{sym, ap, ◌∙◌}
use Rattle.estimator.specs.Bytes.{capped}
use Rattle.plan_core.specs.PlainPlan.{plan_of}
use Rattle.rewrite_core.specs.PlainRewriting.{Change, OfDistinct, OfJoin}
use Rattle.rewriter.proofs.Choices.{least_there}
use Rattle.rewriter.proofs.PartBytes.{swapped_two}
use Rattle.rewriter.proofs.prices.price_over_pair.Goals as goal

pub returns-in-None-clause-distinct : goal.returns-in-None-clause-distinct
returns-in-None-clause-distinct c = λ entries lengths q old new s p by pair. by.none (rw c.in-None.is at pair)

pub returns-in-None-clause-join : goal.returns-in-None-clause-join
returns-in-None-clause-join c = λ entries lengths q old new s p by pair. by.none (rw c.in-None.is at pair)

pub returns-in-Some-clause-distinct : goal.returns-in-Some-clause-distinct
returns-in-Some-clause-distinct c = λ entries lengths q old new s p by pair.
    let l = rw c.in-Some.is at pair in
    let bytes = l.delta.bytes ∙ ap capped (sym by.bytes) in
    record {
      of = Change q old new (OfDistinct l.best.of l.delta.of);
      least = by.makes l.delta.of l.best.of l.delta.least (least_there entries lengths (plan_of p.plan.now) p.cuts.now c.in-Some.pair.best l.best);
      estimate = c.plus.ensures _ _ (c.plus-parts.ensures _ _ l.delta.estimate l.best.estimate) bytes ∙ ap capped (swapped_two _ _ _);
      bytes = bytes;
    }

pub returns-in-Some-clause-join : goal.returns-in-Some-clause-join
returns-in-Some-clause-join c = λ entries lengths q old new s p by pair.
    let l = rw c.in-Some.is at pair in
    let bytes = l.delta.bytes ∙ ap capped (sym by.bytes) in
    record {
      of = Change q old new (OfJoin l.delta.of l.best.of);
      least = by.makes l.delta.of l.best.of l.delta.least (least_there entries lengths (plan_of p.plan.now) p.cuts.now c.in-Some.pair.best l.best);
      estimate = c.plus.ensures _ _ (c.plus-parts.ensures _ _ l.delta.estimate l.best.estimate) bytes;
      bytes = bytes;
    }
