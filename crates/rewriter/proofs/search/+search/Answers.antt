use Rattle.std.proofs.Common.{rules}
use Rattle.plan_core.specs.PlainPlan.{plan_of}
use Rattle.rewriter.proofs.LeastParts as law
use Rattle.rewriter.proofs.Ranges.{cut_length}
use Rattle.rewriter.proofs.search.+search.Goals as goal

pub choice_at-returns-in-Some-clause-answer : goal.choice_at-returns-in-Some-clause-answer
choice_at-returns-in-Some-clause-answer g t c =
    c.in-Some.ensures (g.L.Lookup.entries c.args.lookup.now) (g.Z.Sizes.lengths c.args.sizes.now) c.requires.found

pub choice_at-returns-clause-found : goal.choice_at-returns-clause-found
choice_at-returns-clause-found g t c =
    c.in_ok-keep_choice.ensures (g.L.Lookup.entries c.args.lookup.now) (g.Z.Sizes.lengths c.args.sizes.now) c.in_ok-choice.ensures.found c.in_ok-choice.ensures.answer

pub choose_at-read_if_least-requires-clause-read : goal.choose_at-read_if_least-requires-clause-read
choose_at-read_if_least-requires-clause-read g t c =
    c.in_ok-read.ensures (g.Z.Sizes.lengths c.args.sizes.now)

pub choose_at-returns-clause-answer : goal.choose_at-returns-clause-answer
choose_at-returns-clause-answer g t c =
    c.cheapest.ensures.least (g.L.Lookup.entries c.args.lookup.now) (g.Z.Sizes.lengths c.args.sizes.now) (plan_of c.args.part.plan.now) c.args.part.cuts.now c.in_ok-computed.ensures.answer (c.in_ok-read.ensures (g.Z.Sizes.lengths c.args.sizes.now)) c.in_ok-grown.ensures.answer

pub computed_at-inputs_of-requires : goal.computed_at-inputs_of-requires
computed_at-inputs_of-requires g t c =
    cut_length (g.Z.Sizes.lengths c.args.sizes.now) (plan_of c.args.part.plan.now) c.args.part.cuts.now c.requires.cuts

pub computed_at-returns-in-Stream-clause-answer : goal.computed_at-returns-in-Stream-clause-answer
computed_at-returns-in-Stream-clause-answer g t c =
    c.price_of_scan.ensures (g.L.Lookup.entries c.args.lookup.now) (c.in-Stream.ensures (g.L.Lookup.entries c.args.lookup.now) (g.Z.Sizes.lengths c.args.sizes.now) c.requires.cuts)

pub computed_at-choice_at-requires : goal.computed_at-choice_at-requires
computed_at-choice_at-requires g t c κs within =
    let cut = (c.in-One.ensures (g.L.Lookup.entries c.args.lookup.now) (g.Z.Sizes.lengths c.args.sizes.now) c.requires.cuts).input.cuts in
    let lower = (c.in-One.ensures (g.L.Lookup.entries c.args.lookup.now) (g.Z.Sizes.lengths c.args.sizes.now) c.requires.cuts).input.lower in search rules

pub computed_at-returns-in_ok-best-in-One-clause-answer : goal.computed_at-returns-in_ok-best-in-One-clause-answer
computed_at-returns-in_ok-best-in-One-clause-answer g t c =
    c.price_of_one.ensures (g.L.Lookup.entries c.args.lookup.now) (g.Z.Sizes.lengths c.args.sizes.now) (plan_of c.args.part.plan.now) c.args.part.cuts.now _ (c.in-One.ensures (g.L.Lookup.entries c.args.lookup.now) (g.Z.Sizes.lengths c.args.sizes.now) c.requires.cuts) c.in_ok-best-in-One.ensures.answer

pub computed_at-choice_at-requires-in-Two : goal.computed_at-choice_at-requires-in-Two
computed_at-choice_at-requires-in-Two g t c κs within =
    let cut = (c.in-Two.ensures (g.L.Lookup.entries c.args.lookup.now) (g.Z.Sizes.lengths c.args.sizes.now) c.requires.cuts).left.cuts in
    let lower = (c.in-Two.ensures (g.L.Lookup.entries c.args.lookup.now) (g.Z.Sizes.lengths c.args.sizes.now) c.requires.cuts).left.lower in search rules

pub computed_at-choice_at-requires-in-Two-2 : goal.computed_at-choice_at-requires-in-Two-2
computed_at-choice_at-requires-in-Two-2 g t c κs within =
    let cut = (c.in-Two.ensures (g.L.Lookup.entries c.args.lookup.now) (g.Z.Sizes.lengths c.args.sizes.now) c.requires.cuts).right.cuts in
    let lower = (c.in-Two.ensures (g.L.Lookup.entries c.args.lookup.now) (g.Z.Sizes.lengths c.args.sizes.now) c.requires.cuts).right.lower in
    let found = c.in_ok-first-in-Two.ensures.found in search rules

pub computed_at-returns-in_ok-second-in-Two-clause-answer : goal.computed_at-returns-in_ok-second-in-Two-clause-answer
computed_at-returns-in_ok-second-in-Two-clause-answer g t c =
    c.price_of_two.ensures (g.L.Lookup.entries c.args.lookup.now) (g.Z.Sizes.lengths c.args.sizes.now) (plan_of c.args.part.plan.now) c.args.part.cuts.now _ _ (c.in-Two.ensures (g.L.Lookup.entries c.args.lookup.now) (g.Z.Sizes.lengths c.args.sizes.now) c.requires.cuts) c.in_ok-first-in-Two.ensures.answer c.in_ok-second-in-Two.ensures.answer

pub grown_at-returns-in-None-clause-answer : goal.grown_at-returns-in-None-clause-answer
grown_at-returns-in-None-clause-answer g t c =
    law.grown_none (g.L.Lookup.entries c.args.lookup.now) (g.Z.Sizes.lengths c.args.sizes.now) (plan_of c.args.part.plan.now) c.args.part.cuts.now (rw c.in-None.is at c.in_ok-earlier.ensures)

pub grown_from-growth_of-requires-clause-old : goal.grown_from-growth_of-requires-clause-old
grown_from-growth_of-requires-clause-old g t c =
    c.requires.sound.leaves _ c.requires.hit.candidate.kept

pub grown_from-growth_of-requires-clause-new : goal.grown_from-growth_of-requires-clause-new
grown_from-growth_of-requires-clause-new g t c =
    cut_length (g.Z.Sizes.lengths c.args.sizes.now) (plan_of c.args.part.plan.now) c.args.part.cuts.now c.requires.cuts

pub grown_from-returns-in-Never-clause-answer : goal.grown_from-returns-in-Never-clause-answer
grown_from-returns-in-Never-clause-answer g t c =
    (c.in-Never.ensures (g.L.Lookup.entries c.args.lookup.now) (g.Z.Sizes.lengths c.args.sizes.now) c.requires.sound c.requires.cuts c.requires.hit)

pub grown_from-price_at-requires : goal.grown_from-price_at-requires
grown_from-price_at-requires g t c κs within =
    let cut = (c.in-Tail.ensures (g.L.Lookup.entries c.args.lookup.now) (g.Z.Sizes.lengths c.args.sizes.now) c.requires.sound c.requires.cuts c.requires.hit).stretch.cuts in
    let lower = (c.in-Tail.ensures (g.L.Lookup.entries c.args.lookup.now) (g.Z.Sizes.lengths c.args.sizes.now) c.requires.sound c.requires.cuts c.requires.hit).stretch.lower in search rules

pub grown_from-returns-in_ok-delta-in-Tail-clause-answer : goal.grown_from-returns-in_ok-delta-in-Tail-clause-answer
grown_from-returns-in_ok-delta-in-Tail-clause-answer g t c =
    c.estimate_of_tail.ensures (g.L.Lookup.entries c.args.lookup.now) (g.Z.Sizes.lengths c.args.sizes.now) (plan_of c.args.part.plan.now) c.args.part.cuts.now _ (c.in-Tail.ensures (g.L.Lookup.entries c.args.lookup.now) (g.Z.Sizes.lengths c.args.sizes.now) c.requires.sound c.requires.cuts c.requires.hit) c.in_ok-delta-in-Tail.ensures.answer

pub grown_from-pair_at-requires : goal.grown_from-pair_at-requires
grown_from-pair_at-requires g t c κs within =
    let stretch = (c.in-Left.ensures (g.L.Lookup.entries c.args.lookup.now) (g.Z.Sizes.lengths c.args.sizes.now) c.requires.sound c.requires.cuts c.requires.hit).stretch.cuts in
    let below = (c.in-Left.ensures (g.L.Lookup.entries c.args.lookup.now) (g.Z.Sizes.lengths c.args.sizes.now) c.requires.sound c.requires.cuts c.requires.hit).stretch.lower in
    let cut = (c.in-Left.ensures (g.L.Lookup.entries c.args.lookup.now) (g.Z.Sizes.lengths c.args.sizes.now) c.requires.sound c.requires.cuts c.requires.hit).part.cuts in
    let lower = (c.in-Left.ensures (g.L.Lookup.entries c.args.lookup.now) (g.Z.Sizes.lengths c.args.sizes.now) c.requires.sound c.requires.cuts c.requires.hit).part.lower in search rules

pub grown_from-returns-in_ok-pair-in-Left-clause-answer : goal.grown_from-returns-in_ok-pair-in-Left-clause-answer
grown_from-returns-in_ok-pair-in-Left-clause-answer g t c =
    c.estimate_of_pair.ensures.left (g.L.Lookup.entries c.args.lookup.now) (g.Z.Sizes.lengths c.args.sizes.now) (plan_of c.args.part.plan.now) c.args.part.cuts.now _ _ (c.in-Left.ensures (g.L.Lookup.entries c.args.lookup.now) (g.Z.Sizes.lengths c.args.sizes.now) c.requires.sound c.requires.cuts c.requires.hit) c.in_ok-pair-in-Left.ensures.answer

pub grown_from-pair_at-requires-in-Right : goal.grown_from-pair_at-requires-in-Right
grown_from-pair_at-requires-in-Right g t c κs within =
    let stretch = (c.in-Right.ensures (g.L.Lookup.entries c.args.lookup.now) (g.Z.Sizes.lengths c.args.sizes.now) c.requires.sound c.requires.cuts c.requires.hit).stretch.cuts in
    let below = (c.in-Right.ensures (g.L.Lookup.entries c.args.lookup.now) (g.Z.Sizes.lengths c.args.sizes.now) c.requires.sound c.requires.cuts c.requires.hit).stretch.lower in
    let cut = (c.in-Right.ensures (g.L.Lookup.entries c.args.lookup.now) (g.Z.Sizes.lengths c.args.sizes.now) c.requires.sound c.requires.cuts c.requires.hit).part.cuts in
    let lower = (c.in-Right.ensures (g.L.Lookup.entries c.args.lookup.now) (g.Z.Sizes.lengths c.args.sizes.now) c.requires.sound c.requires.cuts c.requires.hit).part.lower in search rules

pub grown_from-returns-in_ok-pair-in-Right-clause-answer : goal.grown_from-returns-in_ok-pair-in-Right-clause-answer
grown_from-returns-in_ok-pair-in-Right-clause-answer g t c =
    c.estimate_of_pair-in-Right.ensures.right (g.L.Lookup.entries c.args.lookup.now) (g.Z.Sizes.lengths c.args.sizes.now) (plan_of c.args.part.plan.now) c.args.part.cuts.now _ _ (c.in-Right.ensures (g.L.Lookup.entries c.args.lookup.now) (g.Z.Sizes.lengths c.args.sizes.now) c.requires.sound c.requires.cuts c.requires.hit) c.in_ok-pair-in-Right.ensures.answer

pub grown_from-pair_at-requires-in-Both : goal.grown_from-pair_at-requires-in-Both
grown_from-pair_at-requires-in-Both g t c κs within =
    let stretch = (c.in-Both.ensures (g.L.Lookup.entries c.args.lookup.now) (g.Z.Sizes.lengths c.args.sizes.now) c.requires.sound c.requires.cuts c.requires.hit).right_delta.cuts in
    let below = (c.in-Both.ensures (g.L.Lookup.entries c.args.lookup.now) (g.Z.Sizes.lengths c.args.sizes.now) c.requires.sound c.requires.cuts c.requires.hit).right_delta.lower in
    let cut = (c.in-Both.ensures (g.L.Lookup.entries c.args.lookup.now) (g.Z.Sizes.lengths c.args.sizes.now) c.requires.sound c.requires.cuts c.requires.hit).old_left.cuts in
    let lower = (c.in-Both.ensures (g.L.Lookup.entries c.args.lookup.now) (g.Z.Sizes.lengths c.args.sizes.now) c.requires.sound c.requires.cuts c.requires.hit).old_left.lower in search rules

pub grown_from-pair_at-requires-in-Both-2 : goal.grown_from-pair_at-requires-in-Both-2
grown_from-pair_at-requires-in-Both-2 g t c κs within =
    let stretch = (c.in-Both.ensures (g.L.Lookup.entries c.args.lookup.now) (g.Z.Sizes.lengths c.args.sizes.now) c.requires.sound c.requires.cuts c.requires.hit).left_delta.cuts in
    let below = (c.in-Both.ensures (g.L.Lookup.entries c.args.lookup.now) (g.Z.Sizes.lengths c.args.sizes.now) c.requires.sound c.requires.cuts c.requires.hit).left_delta.lower in
    let cut = (c.in-Both.ensures (g.L.Lookup.entries c.args.lookup.now) (g.Z.Sizes.lengths c.args.sizes.now) c.requires.sound c.requires.cuts c.requires.hit).right.cuts in
    let lower = (c.in-Both.ensures (g.L.Lookup.entries c.args.lookup.now) (g.Z.Sizes.lengths c.args.sizes.now) c.requires.sound c.requires.cuts c.requires.hit).right.lower in
    let found = c.in_ok-before-in-Both.ensures.found in search rules

pub grown_from-returns-in_ok-behind-in-Both-clause-answer : goal.grown_from-returns-in_ok-behind-in-Both-clause-answer
grown_from-returns-in_ok-behind-in-Both-clause-answer g t c =
    c.estimate_of_both.ensures (g.L.Lookup.entries c.args.lookup.now) (g.Z.Sizes.lengths c.args.sizes.now) (plan_of c.args.part.plan.now) c.args.part.cuts.now _ (c.in-Both.ensures (g.L.Lookup.entries c.args.lookup.now) (g.Z.Sizes.lengths c.args.sizes.now) c.requires.sound c.requires.cuts c.requires.hit) c.in_ok-before-in-Both.ensures.answer c.in_ok-behind-in-Both.ensures.answer

pub increased_at-increase_of-requires-clause-old : goal.increased_at-increase_of-requires-clause-old
increased_at-increase_of-requires-clause-old g t c =
    cut_length (g.Z.Sizes.lengths c.args.sizes.now) (plan_of c.args.stretch.plan.now) c.args.stretch.old.now c.requires.cuts.before

pub increased_at-increase_of-requires-clause-new : goal.increased_at-increase_of-requires-clause-new
increased_at-increase_of-requires-clause-new g t c =
    cut_length (g.Z.Sizes.lengths c.args.sizes.now) (plan_of c.args.stretch.plan.now) c.args.stretch.new.now c.requires.cuts.after

pub increased_at-returns-in-Never-clause-answer : goal.increased_at-returns-in-Never-clause-answer
increased_at-returns-in-Never-clause-answer g t c =
    (c.in-Never.ensures (g.L.Lookup.entries c.args.lookup.now) (g.Z.Sizes.lengths c.args.sizes.now) c.requires.cuts)

pub increased_at-returns-in-Unchanged-clause-answer : goal.increased_at-returns-in-Unchanged-clause-answer
increased_at-returns-in-Unchanged-clause-answer g t c =
    c.price_of_nothing.ensures (g.L.Lookup.entries c.args.lookup.now) (g.Z.Sizes.lengths c.args.sizes.now) (plan_of c.args.stretch.plan.now) c.args.stretch.old.now c.args.stretch.new.now (c.in-Unchanged.ensures (g.L.Lookup.entries c.args.lookup.now) (g.Z.Sizes.lengths c.args.sizes.now) c.requires.cuts)

pub increased_at-returns-in-NewRows-clause-answer : goal.increased_at-returns-in-NewRows-clause-answer
increased_at-returns-in-NewRows-clause-answer g t c =
    c.price_of_new_rows.ensures (g.L.Lookup.entries c.args.lookup.now) (c.in-NewRows.ensures (g.L.Lookup.entries c.args.lookup.now) (g.Z.Sizes.lengths c.args.sizes.now) c.requires.cuts).0 (c.in-NewRows.ensures (g.L.Lookup.entries c.args.lookup.now) (g.Z.Sizes.lengths c.args.sizes.now) c.requires.cuts).1

pub increased_at-price_at-requires : goal.increased_at-price_at-requires
increased_at-price_at-requires g t c κs within =
    let cut = (c.in-Child.ensures (g.L.Lookup.entries c.args.lookup.now) (g.Z.Sizes.lengths c.args.sizes.now) c.requires.cuts).stretch.cuts in
    let lower = (c.in-Child.ensures (g.L.Lookup.entries c.args.lookup.now) (g.Z.Sizes.lengths c.args.sizes.now) c.requires.cuts).stretch.lower in search rules

pub increased_at-returns-in_ok-delta-in-Child-clause-answer : goal.increased_at-returns-in_ok-delta-in-Child-clause-answer
increased_at-returns-in_ok-delta-in-Child-clause-answer g t c =
    c.price_over_child.ensures (g.L.Lookup.entries c.args.lookup.now) (g.Z.Sizes.lengths c.args.sizes.now) (plan_of c.args.stretch.plan.now) c.args.stretch.old.now c.args.stretch.new.now _ (c.in-Child.ensures (g.L.Lookup.entries c.args.lookup.now) (g.Z.Sizes.lengths c.args.sizes.now) c.requires.cuts) c.in_ok-delta-in-Child.ensures.answer

pub increased_at-pair_at-requires : goal.increased_at-pair_at-requires
increased_at-pair_at-requires g t c κs within =
    let stretch = (c.in-Distinct.ensures (g.L.Lookup.entries c.args.lookup.now) (g.Z.Sizes.lengths c.args.sizes.now) c.requires.cuts).stretch.cuts in
    let below = (c.in-Distinct.ensures (g.L.Lookup.entries c.args.lookup.now) (g.Z.Sizes.lengths c.args.sizes.now) c.requires.cuts).stretch.lower in
    let cut = (c.in-Distinct.ensures (g.L.Lookup.entries c.args.lookup.now) (g.Z.Sizes.lengths c.args.sizes.now) c.requires.cuts).part.cuts in
    let within_plan = (c.in-Distinct.ensures (g.L.Lookup.entries c.args.lookup.now) (g.Z.Sizes.lengths c.args.sizes.now) c.requires.cuts).part.within in search rules

pub increased_at-returns-in_ok-pair-in-Distinct-clause-answer : goal.increased_at-returns-in_ok-pair-in-Distinct-clause-answer
increased_at-returns-in_ok-pair-in-Distinct-clause-answer g t c =
    c.price_over_pair.ensures.distinct (g.L.Lookup.entries c.args.lookup.now) (g.Z.Sizes.lengths c.args.sizes.now) (plan_of c.args.stretch.plan.now) c.args.stretch.old.now c.args.stretch.new.now _ _ (c.in-Distinct.ensures (g.L.Lookup.entries c.args.lookup.now) (g.Z.Sizes.lengths c.args.sizes.now) c.requires.cuts) c.in_ok-pair-in-Distinct.ensures.answer

pub increased_at-pair_at-requires-in-Join : goal.increased_at-pair_at-requires-in-Join
increased_at-pair_at-requires-in-Join g t c κs within =
    let stretch = (c.in-Join.ensures (g.L.Lookup.entries c.args.lookup.now) (g.Z.Sizes.lengths c.args.sizes.now) c.requires.cuts).stretch.cuts in
    let below = (c.in-Join.ensures (g.L.Lookup.entries c.args.lookup.now) (g.Z.Sizes.lengths c.args.sizes.now) c.requires.cuts).stretch.lower in
    let cut = (c.in-Join.ensures (g.L.Lookup.entries c.args.lookup.now) (g.Z.Sizes.lengths c.args.sizes.now) c.requires.cuts).part.cuts in
    let within_plan = (c.in-Join.ensures (g.L.Lookup.entries c.args.lookup.now) (g.Z.Sizes.lengths c.args.sizes.now) c.requires.cuts).part.within in search rules

pub increased_at-returns-in_ok-pair-in-Join-clause-answer : goal.increased_at-returns-in_ok-pair-in-Join-clause-answer
increased_at-returns-in_ok-pair-in-Join-clause-answer g t c =
    c.price_over_pair-in-Join.ensures.join (g.L.Lookup.entries c.args.lookup.now) (g.Z.Sizes.lengths c.args.sizes.now) (plan_of c.args.stretch.plan.now) c.args.stretch.old.now c.args.stretch.new.now _ _ (c.in-Join.ensures (g.L.Lookup.entries c.args.lookup.now) (g.Z.Sizes.lengths c.args.sizes.now) c.requires.cuts) c.in_ok-pair-in-Join.ensures.answer

pub pair_at-returns-in-None-clause-answer : goal.pair_at-returns-in-None-clause-answer
pair_at-returns-in-None-clause-answer g t c =
    rw c.in-None.is at c.in_ok-price_at.ensures.answer

pub pair_at-returns-in_ok-best-in-Some-clause-answer : goal.pair_at-returns-in_ok-best-in-Some-clause-answer
pair_at-returns-in_ok-best-in-Some-clause-answer g t c =
    record { delta = rw c.in-Some.is at c.in_ok-price_at.ensures.answer; best = c.in_ok-best-in-Some.ensures.answer }

pub price_at-returns-in-Some-clause-answer : goal.price_at-returns-in-Some-clause-answer
price_at-returns-in-Some-clause-answer g t c =
    c.in-Some.ensures (g.L.Lookup.entries c.args.lookup.now) (g.Z.Sizes.lengths c.args.sizes.now) c.requires.found

pub price_at-returns-clause-found : goal.price_at-returns-clause-found
price_at-returns-clause-found g t c =
    c.in_ok-keep_price.ensures (g.L.Lookup.entries c.args.lookup.now) (g.Z.Sizes.lengths c.args.sizes.now) c.in_ok-price.ensures.found c.in_ok-price.ensures.answer
